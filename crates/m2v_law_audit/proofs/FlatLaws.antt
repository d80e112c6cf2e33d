-- The report of the flat profile's stream tells no breach, but of the rule on whole macroblocks perhaps, and no failure.
use Rattle.std.proofs.Common.{◌≡◌, ℕ, ◌+◌, ◌≤◌, inl, List, [], ◌∷◌, length, map, Some, None, refl, sym, ap, subst, ◌∙◌, arith}
use Rattle.std.specs.Prelude.{take}
use Rattle.std.proofs.lemmas.List.{nil_from_length}
use Rattle.m2v_flat.specs.declared.settings.FlatSettings.{FlatSettings}
use Rattle.m2v_flat.specs.Answers.{HasPassed}
use Rattle.m2v_flat.specs.Flat.{Flat}
use Rattle.m2v_flat.specs.Tree.{sequence_of}
use Rattle.m2v_flat.specs.Told.{decoded_from}
use Rattle.m2v_flat.specs.Numbered.{counted_from}
use Rattle.m2v_flat.proofs.Passing.{is_small}
use Rattle.m2v_flat.proofs.Pictures.{IsFlat, is_flat}
use Rattle.m2v_flat.proofs.Frames.{parts_are}
use Rattle.m2v_flat.proofs.Streams.{FlatTree, flat_tree}
use Rattle.m2v_flat.proofs.LawfulPictures.{counted_are}
use Rattle.m2v_flat.proofs.Rules.{parts_none}
use Rattle.m2v_model.specs.States.{at_first}
use Rattle.m2v_model.specs.Pictures.{Events, no_frames, events_from, sequence_header, coded_picture}
use Rattle.m2v_model.specs.Streams.{Part}
use Rattle.m2v_model.specs.Decoding.{events, low_delay_of}
use Rattle.m2v_model.specs.Lawful.{Breaches, numbered, all_numbered, breaches, breaches_of}
use Rattle.m2v_model.proofs.Ends.{end_bytes}
use Rattle.m2v_audit.proofs.m2v_check.Telling.{first_in}
use Rattle.m2v_audit.proofs.m2v_check.Onward.{first_stays}
use Rattle.m2v_audit.specs.m2v_strict.declared.rule_set.RuleSet.TheVariants as sets
use Rattle.m2v_audit.specs.declared.asked.Asked.{Asked}
use Rattle.m2v_audit.specs.declared.records.FailureRecord.{FailureRecord}
use Rattle.m2v_law_audit.specs.Parts.{more_by}
use Rattle.m2v_law_audit.specs.Found.{findings_of, judged_in}
use Rattle.m2v_law_audit.specs.Accounts.{numbered_in, failures_of_stream}
use Rattle.m2v_law_audit.specs.Encoded.{IsFoundClean}
use Rattle.m2v_law_audit.proofs.AccountReading.{in_pieces}
use Rattle.m2v_law_audit.proofs.BreachTexts.{as_many}
use Rattle.m2v_law_audit.proofs.RemovalFailures.{tells_all_failures}
use Rattle.m2v_law_audit.proofs.CleanEvents.{before_first}
use Rattle.m2v_law_audit.proofs.CleanTexts.{of_text}
use Rattle.m2v_law_audit.proofs.CleanHeaders.{MayBy, clean_by}
use Rattle.m2v_law_audit.proofs.CleanKeeps.{Keep}
use Rattle.m2v_law_audit.proofs.FlatEvents.{keep_flat}
use Rattle.m2v_law_audit.proofs.FlatArrivals.{TellNoRate, no_arrivals}
use Rattle.m2v_law_audit.proofs.FlatOthers.{no_others}
use Rattle.m2v_law_audit.proofs.FlatPieces.{pieces_are, all_small, as_many as as_many_pieces, end_small}
use Rattle.m2v_law_audit.proofs.FlatAccounts.{IsOfFrames, none_fails}

-- what is told of frames
abbrev told : FlatSettings → List (List ℕ) → Events
told s frames = sequence_header (sequence_of s) ∷ map coded_picture (decoded_from s 0 frames)

tell_none : (s : FlatSettings) (number : ℕ) (frames : List (List ℕ)) → TellNoRate (map coded_picture (decoded_from s number frames))
unfolding decoded_from
tell_none s number [] = tt
tell_none s number (raw ∷ frames) = (refl, tell_none s (number + 1) frames)

numbers_are : (s : FlatSettings) (frames : List (List ℕ)) → all_numbered (told s frames) ≡ counted_from s 0 frames
unfolding numbered
numbers_are s frames = counted_are s 0 frames

module _ (s : FlatSettings) (raw : List ℕ) (frames : List (List ℕ)) (passed : HasPassed s) (asked : Asked) (number start : ℕ) where
  abbrev all : List (List ℕ)
  all = raw ∷ frames

  abbrev x : FlatTree s all
  x = flat_tree s all passed (omega arith)

  flat : IsFlat s
  flat = is_flat s passed

  tells : events x.tree ≡ told s all
  tells = ap (λ (ps : List Part). events_from at_first no_frames ps) x.parts ∙ parts_are s all flat

  header : x.tree.state.first ≡ Some (sequence_of s)
  header =
      (in_pieces (Flat s all) x.tree x.stream).first ∙ ap (first_in None) tells
      ∙ first_stays (sequence_of s) (map coded_picture (decoded_from s 0 all))

  numbers : numbered_in x.tree ≡ counted_from s 0 all
  numbers = ap all_numbered tells ∙ numbers_are s all

  lawful : breaches_of x.tree ≡ []
  lawful =
      let low = low_delay_of x.tree.state.first in
      ap (λ (ps : List Part). breaches low (events_from at_first no_frames ps)) x.parts ∙ parts_none s low all passed

  none_judged : judged_in (findings_of asked number start (Flat s all)) ≡ []
  none_judged =
      nil_from_length _ (as_many (Flat s all) x.tree x.stream asked number start ∙ ap (λ (bs : Breaches). length bs) lawful)

  of_frames : IsOfFrames s raw frames (Flat s all) x.tree
  of_frames = record {
    header = header;
    numbers = numbers;
    first = _;
    others = _;
    last = take 4 end_bytes;
    are = pieces_are s raw frames flat;
    many = as_many_pieces s raw frames;
    small = all_small s raw frames flat;
    end = omega (arith, end_small);
  }

  none_late : failures_of_stream number start (Flat s all) x.tree ≡ []
  none_late =
      let bounds = (is_small s passed).bounds in
      none_fails s raw frames (Flat s all) x.tree of_frames number start bounds.code_least bounds.code_most

  keep : Keep (MayBy (sequence_of s)) (sequence_of s) (before_first (sequence_of s).extension.low_delay) (events x.tree)
  keep =
      let low = (sequence_of s).extension.low_delay in
      subst (λ (es : Events). Keep (MayBy (sequence_of s)) (sequence_of s) (before_first low) es) (sym tells) (keep_flat s raw frames low)

  some_clean : asked.rules ≡ sets.Main → IsFoundClean (sequence_of s) asked number start (Flat s all)
  some_clean rules =
      let text = Flat s all in
      let arrives = no_arrivals text x.tree x.stream (subst TellNoRate (sym tells) (tell_none s 0 all)) asked number start in
      let may = of_text (MayBy (sequence_of s)) (λ rule is. inl is) (sequence_of s) text x.tree x.stream header keep asked number start rules arrives
      (no_others s raw frames flat asked number start) in
      let counted = (tells_all_failures text x.tree x.stream asked number start).counted in
      clean_by (sequence_of s) text x.tree x.stream header asked number start may
      (none_judged, counted ∙ ap (λ (fs : List FailureRecord). more_by 0 (length fs)) none_late)

pub flat_clean : (s : FlatSettings) (frames : List (List ℕ)) → HasPassed s → 1 ≤ length frames
    → (asked : Asked) (number start : ℕ) → asked.rules ≡ sets.Main → IsFoundClean (sequence_of s) asked number start (Flat s frames)
flat_clean s [] passed some asked number start rules = absurd (omega (arith, some))
flat_clean s (raw ∷ frames) passed some asked number start rules = some_clean s raw frames passed asked number start rules
