-- The encoder's stream breaks none of the verifier's rules.
use Rattle.std.proofs.Common.{◌≡◌, ℕ, ◌≤◌, Bool, List, [], length, ap, ◌∙◌}
use Rattle.m2v_set.specs.declared.settings.Settings.{Settings}
use Rattle.m2v_set.specs.Rules.{Passes}
use Rattle.m2v_enc_stream.specs.Streams.{Coded}
use Rattle.m2v_model.specs.Decoding.{low_delay_of}
use Rattle.m2v_model.specs.Lawful.{breaches, breaches_of, Lawful}
use Rattle.m2v_enc_stream.specs.Trees.{groups_of, tree_of}
use Rattle.m2v_enc_stream.proofs.TreeStreams.{stream_stands}
use Rattle.m2v_law_shown.proofs.Decodes.{spelled}
use Rattle.m2v_law_shown.specs.Telling.{told_all}
use Rattle.m2v_law_shown.proofs.LawfulNumbers.{told_none}
use Rattle.m2v_law_shown.proofs.Good.{are_groups}
use Rattle.m2v_law_shown.proofs.Streams.{no_delay, stream_told}

none_broken : (s : Settings) (frames : List (List ℕ)) → Passes s → 1 ≤ length frames → length frames ≤ 999999 → breaches_of (tree_of s frames) ≡ []
none_broken s frames passes some few =
    let x = stream_told s frames passes some few in
    let t = x.jobs in
    (λ i. breaches (low_delay_of (x.first i)) (t.told i)) ∙ ap (λ (b : Bool). breaches b (told_all s t.made)) (no_delay s)
    ∙ told_none s (groups_of s frames) t.made passes (are_groups s frames passes) t.are t.jobs

pub encoded_lawful : (s : Settings) (frames : List (List ℕ)) → Passes s → 1 ≤ length frames → length frames ≤ 999999 → Lawful (Coded s frames)
encoded_lawful s frames passes some few = record {
  tree = tree_of s frames;
  stream = stream_stands spelled s frames passes some few;
  lawful = none_broken s frames passes some few;
}
