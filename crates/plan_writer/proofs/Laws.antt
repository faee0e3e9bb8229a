-- What holds of the definitions in specs/, in named modules.
pub mod PlanBytes
pub mod Numbers
pub mod Costs
pub mod PlanBits
pub mod Answers
pub mod ReadBack
