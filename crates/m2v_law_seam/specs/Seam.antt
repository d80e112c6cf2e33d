-- The law of a seam: two strands, one behind the other, show what each shows by itself.
use Rattle.std.specs.Prelude.{◌≡◌, ℕ, true, false, List, ◌++◌}
use Rattle.m2v_model.specs.Units.{cut}
use Rattle.m2v_model.specs.Streams.{Sofar}
use Rattle.m2v_model.specs.Decoding.{Stream, Decodes, pictures, frames_of}
use Rattle.m2v_law_group.specs.Groups.{end_code}
use Rattle.m2v_law_seam.specs.Strands.{begins_sequence, has_end, last_open, keeps_rule, agrees}

-- bytes as strands have them, which are a stream without a fault with an end code behind them
pub record IsStream (bytes : List ℕ) (tree : Sofar) : Type 0 where
  pub begins : begins_sequence bytes ≡ true
  pub no_end : has_end (cut 0 bytes).1 ≡ false
  pub closed : last_open (cut 0 bytes).1 ≡ false
  pub stream : Stream (bytes ++ end_code) tree

-- Where bytes read, and others read by themselves, keep the rule of a strand, and have a first sequence header that agrees with
-- that of the first ones: both together read, and show what the first ones show, and then what the others show.
abbrev pub Seam : List ℕ → List ℕ → Type 0
Seam a b =
    (first second : Sofar) → IsStream a first → IsStream b second → keeps_rule (pictures second) ≡ true
    → agrees first.state.first second.state.first ≡ true
    → Decodes ((a ++ b) ++ end_code) (frames_of first ++ frames_of second)
