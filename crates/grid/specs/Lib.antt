-- The definitions of the grid (Grid), its theorems (GridLaws), what its answers say (Told, ToldLaws), and the laws that the proofs cite (ReplyLaws, SignedLaws).
pub mod Grid
pub mod GridLaws
pub mod ReplyLaws
pub mod SignedLaws
pub mod Told
pub mod ToldLaws
