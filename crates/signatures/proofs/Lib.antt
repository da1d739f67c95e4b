pub mod BorneOut
