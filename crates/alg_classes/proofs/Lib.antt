mod Profiles
mod MadeExamples
