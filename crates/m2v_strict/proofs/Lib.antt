pub use Rattle.m2v_check.proofs as m2v_check
