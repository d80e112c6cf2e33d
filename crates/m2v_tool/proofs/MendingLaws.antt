-- What follows from what `mend` did and what was told of it, and what holds of mended texts.
use Rattle.std.proofs.Common.{◌≡◌, inl, inr, ℕ, ◌≤◌, ◌++◌, List, Option, Some, None, refl, sym, subst, ◌∙◌}
use Rattle.clap.specs.Walk.{Text}
use Rattle.m2v_port.specs.Ends.{Change, change, Tells}
use Rattle.m2v_port.specs.declared.error.PortError.{PortError}
use Rattle.m2v_port.specs.declared.error.PortError.TheVariants as calls
use Rattle.m2v_port.proofs.Runs.{tells, rose_since}
use Rattle.m2v_model.specs.Pieces.{Limit, too_long, too_large}
use Rattle.m2v_cut.specs.m2v_decode.Answers.{OfText}
use Rattle.m2v_cut.proofs.m2v_decode.AnswerLaws.{of_text}
use Rattle.m2v_mend.specs.declared.answer.Answer.{Answer}
use Rattle.m2v_mend.specs.declared.answer.MendError.{MendError}
use Rattle.m2v_mend.specs.declared.answer.MendError.TheVariants as errors
use Rattle.m2v_mend.specs.Answers.{mend_limit, IsMended, IsPart, IsOver, Fails}
use Rattle.m2v_mend.specs.m2v_law_seam.Spans.{steps}
use Rattle.m2v_mend.specs.m2v_law_seam.Told as answers
use Rattle.m2v_mend.specs.m2v_law_seam.Told.{status_of, answer_to}
use Rattle.m2v_mend.specs.m2v_law_seam.Mends.{MendDecodes, MendSame, MendTwice, LeftOut, AllTold, AllThere, FramesTold, PicturesKept, AnswerTells}
use Rattle.m2v_mend.proofs.m2v_law_seam.Fold.{mend_decodes}
use Rattle.m2v_mend.proofs.m2v_law_seam.Whole.{mend_same_steps}
use Rattle.m2v_mend.proofs.m2v_law_seam.Twice.{mend_twice_steps}
use Rattle.m2v_mend.proofs.m2v_law_seam.Left.{left_told}
use Rattle.m2v_mend.proofs.m2v_law_seam.Told as tells_all
use Rattle.m2v_mend.proofs.m2v_law_seam.InTurn.{all_there}
use Rattle.m2v_mend.proofs.m2v_law_seam.There.{steps_keep}
use Rattle.m2v_mend.proofs.m2v_law_seam.Frames.{frames_told}
use Rattle.m2v_mend.proofs.m2v_law_seam.Kept.{steps_kept_pictures}
use Rattle.m2v_mend.proofs.m2v_law_seam.Numbers.{steps_answer}
use Rattle.m2v_tool.specs.declared.mend.MendOutcome.{MendOutcome}
use Rattle.m2v_tool.specs.declared.mend.MendOutcome.TheVariants.{Mended, Unopened, Stopped}
use Rattle.m2v_tool.specs.Endings.{Told, Success, unopened_ending, ending_past}
use Rattle.m2v_tool.specs.Stops.{mending_stopped}
use Rattle.m2v_tool.specs.Mending.{MendShut, MendComes, told_ending, mended_ending, mend_ending, MendAnswer, MendDone, MendKeeps}
use Rattle.m2v_tool.specs.Places.{opened, recon_by}
use Rattle.m2v_tool.specs.Runs.{Run, work_of, Yields, NoneFailed, Succeeds}
use Rattle.m2v_tool.proofs.EndingLaws.{or_memory, read_told, want_told, memory_told}
use Rattle.m2v_tool.proofs.PlaceLaws.{grown_from, prefix_from, failed_by}
use Rattle.m2v_tool.proofs.DoneLaws.{mend_done, all_told, no_success}

-- ---- what was done to recon since it was opened counts as done to it since before

text_from : (left : Change) (P Q : List ℕ → Type 0) → ((text : List ℕ) → P text → Q text) → OfText left P → OfText left Q
text_from left P Q f h = record { bytes = h.bytes; moved = h.moved; told = λ rest is. f (h.bytes ++ rest) (h.told rest is) }

module _ {N : Type 0} (held : N → Option (List ℕ)) (faults : N → ℕ) (n0 n1 n2 : N) (same : held n1 ≡ held n0) (le : faults n0 ≤ faults n1) (left output : Change) where
  abbrev since : Change
  since = change held faults n1 n2

  abbrev whole : Change
  whole = opened (change held faults n0 n2)

  pub read_from : (a : Answer) → OfText left (λ text. IsMended text output since a) → OfText left (λ text. IsMended text output whole a)
  read_from a c =
      text_from left (λ text. IsMended text output since a) (λ text. IsMended text output whole a)
      (λ text m. record { fits = m.fits; answer = m.answer; grown = m.grown; listed = grown_from same m.listed }) c

  part_from : (text : List ℕ) → IsPart text output since → IsPart text output whole
  part_from text p = record { grown = p.grown; listed = prefix_from same p.listed }

  parts_from : OfText left (λ text. IsPart text output since) → OfText left (λ text. IsPart text output whole)
  parts_from c = text_from left (λ text. IsPart text output since) (λ text. IsPart text output whole) part_from c

  over_from : (l : Limit) → OfText left (λ text. IsOver text output since l) → OfText left (λ text. IsOver text output whole l)
  over_from l c =
      text_from left (λ text. IsOver text output since l) (λ text. IsOver text output whole l)
      (λ text o. record { passes = o.passes; part = part_from text o.part }) c

  pub fails_from : (e : MendError) → Fails left output since e → Fails left output whole e
  fails_from errors.Read c = (c.0, parts_from c.1)
  fails_from errors.Write c = (elim c.0 [ inl o ↦ inl o | inr n ↦ inr (rose_since le n) ], parts_from c.1)
  fails_from errors.TooLong c = over_from too_long c
  fails_from errors.PictureTooLarge c = over_from too_large c
  fails_from errors.Memory c = parts_from c

-- ---- what was told

module _ (r : Run) (name : Option Text) where
  -- what was done to recon, where it is the list
  abbrev list : Change
  list = recon_by name r.recon

  module _ (text : List ℕ) (told : r.input.old ≡ Some text) where
    -- the answer to the text
    abbrev Said : Type 0
    Said = MendAnswer r name text

    mended_as : (a : Answer) → IsMended text r.output list a → Told (mended_ending a) r.status r.report → Said
    mended_as a i t = MendAnswer.mended i.fits i.grown i.listed (subst (λ (x : answers.Answer). Told (told_ending x) r.status r.report) i.answer t)

    over_as : (l : Limit) → IsOver text r.output list l → Told (ending_past l) r.status r.report → Said
    over_as l i t = MendAnswer.past l i.passes (i.part).grown (i.part).listed t

    stopped_as : (e : MendError) → Fails r.input r.output list e → Told (mending_stopped e) r.status r.report → Yields r Said
    unfolding mending_stopped
    stopped_as errors.Read c t = read_told r t c.0
    stopped_as errors.Write c t =
        or_memory r Said (mending_stopped errors.Write) 8 t refl refl
        (λ is. elim c.0 [
          | inl output ↦ Yields.write is output
          | inr recon ↦ Yields.said (MendAnswer.recon recon is)
        ])
    stopped_as errors.TooLong c t = Yields.said (over_as too_long (of_text r.input (λ bytes. IsOver bytes r.output list too_long) text told c) t)
    stopped_as errors.PictureTooLarge c t = Yields.said (over_as too_large (of_text r.input (λ bytes. IsOver bytes r.output list too_large) text told c) t)
    stopped_as errors.Memory c t = want_told r t

    shut_as : (e : PortError) → MendShut name (work_of r) e → Told (unopened_ending e) r.status r.report → Yields r Said
    unfolding unopened_ending
    shut_as calls.Failed c t =
        or_memory r Said (unopened_ending calls.Failed) 8 t refl refl
        (λ is. Yields.said (MendAnswer.recon (failed_by name r.recon c.named c.shut.0) is))
    shut_as calls.Memory c t = want_told r t

    answer_at : (o : MendOutcome) → MendComes name (work_of r) o → Told (mend_ending o) r.status r.report → Yields r Said
    unfolding MendComes mend_ending
    answer_at (Mended a) c t = Yields.said (mended_as a (of_text r.input (λ bytes. IsMended bytes r.output list a) text told c.mended) t)
    answer_at (Unopened e) c t = shut_as e c t
    answer_at (Stopped e) c t = stopped_as e c.stops t

    -- where it passes no limit, and no picture is left out
    all_as : (o : MendOutcome) → MendComes name (work_of r) o → Told (mend_ending o) r.status r.report → mend_limit text ≡ None → status_of (answer_to steps text) ≡ 0 → NoneFailed r
        → (list.Failed → ⊥) → Succeeds r
    unfolding MendComes mend_ending mending_stopped unopened_ending
    all_as (Mended a) c t fits all well sound =
        let i = of_text r.input (λ bytes. IsMended bytes r.output list a) text told c.mended in
        all_told r a (subst (λ (x : answers.Answer). status_of x ≡ 0) (sym i.answer) all) well t
    all_as (Unopened calls.Failed) c t fits all well sound = absurd (sound (failed_by name r.recon c.named c.shut.0))
    all_as (Unopened calls.Memory) c t fits all well sound = inr (memory_told r.status r.report t)
    all_as (Stopped errors.Read) c t fits all well sound = absurd (well.input c.stops.0)
    all_as (Stopped errors.Write) c t fits all well sound = elim c.stops.0 [
      | inl output ↦ absurd (well.output output)
      | inr recon ↦ absurd (sound recon)
    ]
    all_as (Stopped errors.TooLong) c t fits all well sound =
        let i = of_text r.input (λ bytes. IsOver bytes r.output list too_long) text told c.stops in
        let wrong : None ≡ Some too_long = sym fits ∙ i.passes in
        absurd cc
    all_as (Stopped errors.PictureTooLarge) c t fits all well sound =
        let i = of_text r.input (λ bytes. IsOver bytes r.output list too_large) text told c.stops in
        let wrong : None ≡ Some too_large = sym fits ∙ i.passes in
        absurd cc
    all_as (Stopped errors.Memory) c t fits all well sound = inr (memory_told r.status r.report t)

  -- a text of which no picture is left out, and no endpoint fails
  abbrev AllMended : List ℕ → Type 0
  AllMended text = mend_limit text ≡ None → status_of (answer_to steps text) ≡ 0 → NoneFailed r → (list.Failed → ⊥) → Succeeds r

  -- what holds of each text that is mended
  keeps_with : (r.status ≡ 0 → Success (MendDone name (work_of r)) mended_ending r.report) → Tells r.input (λ text. Yields r (MendAnswer r name text)) → Tells r.input AllMended
      → MendKeeps name r
  keeps_with done answer mended = record {
    done = done;
    answer = answer;
    mended = mended;
    decodes = tells r.input (MendDecodes steps) (λ text told. mend_decodes steps text);
    same = tells r.input (MendSame steps) (λ text told. mend_same_steps text);
    twice = tells r.input (MendTwice steps) (λ text told. mend_twice_steps text);
    left_out = tells r.input (LeftOut steps) (λ text told. left_told steps text);
    all_told = tells r.input (AllTold steps) (λ text told. tells_all.all_told steps text);
    all_there = tells r.input (AllThere steps) (λ text told. all_there steps steps_keep text);
    frames_told = tells r.input (FramesTold steps) (λ text told. frames_told steps text);
    pictures_kept = tells r.input (PicturesKept steps) (λ text told. steps_kept_pictures text);
    numbers = tells r.input (AnswerTells steps) (λ text told. steps_answer text);
  }

  pub mend_keeps : (o : MendOutcome) → MendComes name (work_of r) o → Told (mend_ending o) r.status r.report → MendKeeps name r
  mend_keeps o c t =
      keeps_with (mend_done r name o c t) (tells r.input (λ text. Yields r (MendAnswer r name text)) (λ text told. answer_at text told o c t))
      (tells r.input AllMended (λ text told fits all well sound. all_as text told o c t fits all well sound))

  -- where memory ran out before the words were read
  pub mend_unread : r.status ≡ 12 → MendKeeps name r
  mend_unread is =
      keeps_with (no_success r is) (tells r.input (λ text. Yields r (MendAnswer r name text)) (λ text told. Yields.memory is))
      (tells r.input AllMended (λ text told fits all well sound. inr is))
