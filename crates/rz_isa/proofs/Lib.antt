pub mod Within
pub mod PlanRows
