-- The report of the encoder's stream tells no breach, but of the rule on whole macroblocks perhaps, and no failure.
use Rattle.std.proofs.Common.{◌≡◌, ℕ, ◌≤◌, inl, false, List, [], ◌∷◌, Option, Some, length, map, refl, sym, ap, subst, ◌∙◌, arith}
use Rattle.std.specs.Prelude.{All, drop, nat_eq, sum}
use Rattle.std.proofs.lemmas.List.Elements.{All-head}
use Rattle.m2v_set.specs.declared.settings.Settings.{Settings}
use Rattle.m2v_set.specs.Rules.{Passes}
use Rattle.m2v_model.specs.m2v_macroblock.m2v_head.declared.picture.PictureInfo.{PictureInfo}
use Rattle.m2v_model.specs.Pictures.{Picture, Events}
use Rattle.m2v_model.specs.Pieces.{pieces}
use Rattle.m2v_model.specs.Decoding.{Stream, events, pictures, frames_of}
use Rattle.m2v_model.specs.Lawful.{Numbered, is_variable}
use Rattle.m2v_model.specs.ByPieces.{at_start}
use Rattle.m2v_model.specs.Buffering.{BufferFigures, StreamAccount, account_in, exact_delays, other_delays, figures_of, figures_in}
use Rattle.m2v_audit.specs.m2v_check.declared.verdict.Figures.{Figures}
use Rattle.m2v_audit.specs.m2v_check.Meaning.{IsLawful}
use Rattle.m2v_audit.specs.m2v_strict.declared.rule_set.RuleSet.TheVariants as sets
use Rattle.m2v_audit.specs.declared.asked.Asked.{Asked}
use Rattle.m2v_audit.specs.Auditing.{nothing}
use Rattle.m2v_law_shown.specs.m2v_enc_stream.Streams.{Coded}
use Rattle.m2v_law_shown.specs.m2v_slice.Headers.{picture_of}
use Rattle.m2v_law_shown.specs.Own.{FitsScan}
use Rattle.m2v_law_shown.specs.Telling.{IsMade}
use Rattle.m2v_law_shown.specs.Told.{Made, job_in, picture_in, number_picture, numbers_of}
use Rattle.m2v_law_shown.specs.m2v_enc_stream.Trees.{sequence_by, groups_of, tree_of}
use Rattle.m2v_law_shown.proofs.m2v_enc_stream.TreeStreams.{stream_stands}
use Rattle.m2v_law_shown.proofs.Account.{tells_numbers}
use Rattle.m2v_law_shown.proofs.Decodes.{spelled}
use Rattle.m2v_law_shown.proofs.Good.{are_groups}
use Rattle.m2v_law_shown.proofs.Headline.{headline, told, account_same}
use Rattle.m2v_law_shown.proofs.ToldAccounts.{account_sent, account_is}
use Rattle.m2v_law_shown.proofs.ToldDelays.{all_exact}
use Rattle.m2v_law_audit.specs.Sequences.{first_byte}
use Rattle.m2v_law_audit.specs.Verdicts.{FindsNothing}
use Rattle.m2v_law_audit.specs.Encoded.{IsFoundClean}
use Rattle.m2v_law_audit.proofs.VerdictLaws.{finds_nothing_where_lawful}
use Rattle.m2v_law_audit.proofs.CleanEvents.{before_first}
use Rattle.m2v_law_audit.proofs.CleanArrivals.{all_arrivals}
use Rattle.m2v_law_audit.proofs.ArrivalPieces.{arrivals_held}
use Rattle.m2v_law_audit.proofs.CleanTexts.{of_text}
use Rattle.m2v_law_audit.proofs.CleanHeaders.{clean_by}
use Rattle.m2v_law_audit.proofs.CleanKeeps.{Keep}
use Rattle.m2v_law_audit.proofs.CleanOthers.{all_others}
use Rattle.m2v_law_audit.proofs.OthersUnits.{IsSilent, all_silent}
use Rattle.m2v_law_audit.proofs.OthersPieces.{in_pieces_of}
use Rattle.m2v_law_audit.proofs.EncodedOthers.{silent_code, coded_silent}
use Rattle.m2v_law_audit.proofs.EncodedHeaders.{May}
use Rattle.m2v_law_audit.proofs.EncodedEvents.{jobs_fit, keep_told}

-- ---- the verdict on the stream

-- the first delay isn't the one that says that the rate is variable
steady : (s : Settings) (ns : List Numbered) (made : List Made) → map number_picture ns ≡ map picture_in made → All (IsMade s) made
    → is_variable ns ≡ false
unfolding picture_of
steady s [] made e are = refl
steady s (n ∷ ns) [] e are = absurd cc
steady s (n ∷ ns) (m ∷ made) e are =
    let is : n.picture ≡ m.1 = cc in
    let own = All-head (IsMade s) m made are in
    ap (λ (p : Picture). nat_eq p.info.vbv_delay 65535) is ∙ ap (λ (i : PictureInfo). nat_eq i.vbv_delay 65535) own.info ∙ own.constant

-- where none of the delays is another one, none behind the first one is
none_behind_first : (ns : List Numbered) (ds : List ℕ) → other_delays ns ds ≡ 0 → other_delays (drop 1 ns) (drop 1 ds) ≡ 0
unfolding other_delays
none_behind_first [] ds e = refl
none_behind_first (n ∷ ns) [] e = nothing_off ns
  where
    nothing_off : (ns : List Numbered) → other_delays ns [] ≡ 0
    nothing_off [] = refl
    nothing_off (m ∷ ms) = refl
none_behind_first (n ∷ ns) (d ∷ ds) e = omega (arith, e)

module _ (s : Settings) (frames : List (List ℕ)) (passes : Passes s) (some : 1 ≤ length frames) (few : length frames ≤ 999999) where
  stands : Stream (Coded s frames) (tree_of s frames)
  stands = stream_stands spelled s frames passes some few

  lawful : (f : Figures) × IsLawful (Coded s frames) f
  lawful =
      let tree = tree_of s frames in
      let h = headline s frames passes some few in
      let told = tells_numbers s frames passes some few in
      let b : BufferFigures = figures_in (Coded s frames) tree in
      let f : Figures = record {
        frames = length (frames_of tree);
        pictures = length (pictures tree);
        bytes = sum (map length (pieces (Coded s frames)));
        low = b.low;
        high = b.high;
        delays = b.delays;
      } in (
        f,
        record {
          lawful = h.lawful;
          constant = record { tree = tree; stream = stands; rate = steady s (numbers_of s frames) told.tells.made told.pictures told.tells.are };
          safe = h.safe;
          counts = record { tree = tree; stream = stands; frames = refl; pictures = refl; bytes = refl };
          buffer = record { tree = tree; stream = stands; figures = refl };
        },
      )

  keep : Keep (May s) (sequence_by s) (before_first (sequence_by s).extension.low_delay) (events (tree_of s frames))
  keep =
      let told = (tells_numbers s frames passes some few).tells in
      let low = (sequence_by s).extension.low_delay in
      let fit : All (FitsScan s.scan) (map job_in told.made) =
      subst (All (FitsScan s.scan)) (sym told.jobs) (jobs_fit s (groups_of s frames) passes (are_groups s frames passes)) in
      subst (λ (es : Events). Keep (May s) (sequence_by s) (before_first low) es) (sym told.told)
      (keep_told s passes told.made low told.are fit)

  -- every delay is the exact one
  exact : (figures_in (Coded s frames) (tree_of s frames)).delays ≡ 0
  unfolding figures_of
  exact =
      let ns = numbers_of s frames in
      let t = told s frames passes some few in
      let is : account_in (Coded s frames) (tree_of s frames) ≡ Some (account_sent s frames) =
      account_same s frames passes some few ∙ account_is spelled s frames passes some few ns t in
      ap (λ (a : Option StreamAccount). (figures_of (pieces (Coded s frames)) ns a).delays) is
      ∙ none_behind_first ns (exact_delays (pieces (Coded s frames)) (account_sent s frames))
      (all_exact spelled s frames passes some few ns t (tells_numbers s frames passes some few).delays (account_sent s frames)
      (account_is spelled s frames passes some few ns t))

  -- so the bits of its pictures arrive in time
  arrives : (asked : Asked) (number start : ℕ)
      → all_arrivals (nothing number asked start) at_start (first_byte start (Coded s frames)) (pieces (Coded s frames)) ≡ []
  arrives asked number start = arrivals_held (Coded s frames) (tree_of s frames) stands lawful.0 lawful.1 exact asked number start

  -- and its units say nothing else before first slices
  silent : (asked : Asked) (number start : ℕ)
      → all_others (nothing number asked start) at_start (first_byte start (Coded s frames)) (pieces (Coded s frames)) ≡ []
  silent asked number start =
      let text = Coded s frames in
      all_silent (pieces text) (first_byte start text) (in_pieces_of IsSilent silent_code text (coded_silent s frames passes few))
      (nothing number asked start) at_start tt

  pub found_clean : (asked : Asked) (number start : ℕ) → asked.rules ≡ sets.Main
      → IsFoundClean (sequence_by s) asked number start (Coded s frames)
  found_clean asked number start rules =
      let text = Coded s frames in
      let tree = tree_of s frames in
      let nothing : FindsNothing asked number start text = ((finds_nothing_where_lawful text tree stands asked number start).1 lawful).0 in
      let header = (tells_numbers s frames passes some few).first in
      let may = of_text (May s) (λ rule is. inl is) (sequence_by s) text tree stands header keep asked number start rules (arrives asked number start) (silent asked number start) in
      clean_by (sequence_by s) text tree stands header asked number start may nothing
