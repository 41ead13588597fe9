pub mod PlanLemmas
pub mod PipelineLemmas
pub mod StepOpLemmas
