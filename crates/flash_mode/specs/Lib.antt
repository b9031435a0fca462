pub mod OwnMode
pub mod RingTurns
