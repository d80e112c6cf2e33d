use Rattle.std.proofs.Common.{ℕ, List, nat_eq, ap, ◌∙◌}
use Rattle.std.specs.List.{starts_with}
use Rattle.m2v_dec_piece.specs.Cutting.{code_of}
use Rattle.m2v_audit.proofs.FeedLaws.{header_whole}
use Rattle.m2v_audit.proofs.feed.begins_sequence.Goals as goal

pub returns : goal.returns
returns c = c.starts_with.ensures.value ∙ ap (λ (bytes : List ℕ). starts_with nat_eq bytes (code_of 0xB3)) c.deref.ensures.value ∙ header_whole c.args.piece.now
