mod ExtremeLaws
mod StepLaws
mod Places
mod DecidingLaws
