-- What only the contracts of private functions and their proofs say: how a call inside a run ended. What a reader must
-- believe of a run is in the files beside this folder.
pub mod Conf
pub mod Rules
pub mod Run
pub mod Setups
