pub mod RunDemand
pub mod RunExchange
