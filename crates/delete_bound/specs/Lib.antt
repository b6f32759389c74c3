pub mod StateBound
