mod Bounds
mod Explored
mod Marks
mod StepsTold
mod Verdicts
