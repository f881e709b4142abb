pub mod StepColumns
