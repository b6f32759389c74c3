pub mod OnArea
