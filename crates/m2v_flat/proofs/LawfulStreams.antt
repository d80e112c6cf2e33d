-- The flat stream stands in its bytes, and what it tells breaks no rule.
use Rattle.std.proofs.Common.{ℕ, ◌≤◌, List, length, ap, ◌∙◌}
use Rattle.m2v_flat.specs.declared.settings.FlatSettings.{FlatSettings}
use Rattle.m2v_flat.specs.Answers.{HasPassed}
use Rattle.m2v_flat.specs.Flat.{Flat}
use Rattle.m2v_flat.proofs.Streams.{flat_tree}
use Rattle.m2v_model.specs.Streams.{Part}
use Rattle.m2v_model.specs.Decoding.{low_delay_of}
use Rattle.m2v_model.specs.States.{at_first}
use Rattle.m2v_model.specs.Pictures.{no_frames, events_from}
use Rattle.m2v_model.specs.Lawful.{Lawful, breaches}
use Rattle.m2v_flat.proofs.Rules.{parts_none}

-- the stream of some frames has no fault, and breaks no rule
pub flat_lawful : (s : FlatSettings) (frames : List (List ℕ)) → HasPassed s → 1 ≤ length frames → Lawful (Flat s frames)
flat_lawful s frames passed some =
    let x = flat_tree s frames passed some in
    record {
      tree = x.tree;
      stream = x.stream;
      lawful = ap (λ (ps : List Part). breaches (low_delay_of x.tree.state.first) (events_from at_first no_frames ps)) x.parts ∙ parts_none s (low_delay_of x.tree.state.first) frames passed;
    }
