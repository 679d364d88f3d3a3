mod BestFirst
mod StrictLabels
