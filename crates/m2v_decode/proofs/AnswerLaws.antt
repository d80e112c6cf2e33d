-- What follows from what is known of an answer: a text with a cause is answered by it, and by nothing else.
use Rattle.std.proofs.Common.{◌≡◌, inl, inr, ℕ, ◌+◌, ◌<◌, ◌≤◌, Bool, true, false, List, [], ◌∷◌, ◌++◌, length, Option, Some, None, Result, Ok, Err, refl, sym, ap, subst, ◌∙◌, arith}
use Rattle.std.specs.Prelude.{if◌then◌else◌, not, nat_eq, nat_le, ◌&&◌, IfOk, IfErr}
use Rattle.std.specs.Option.{option_map}
use Rattle.std.proofs.lemmas.Bool.{cases_lt, le-leb}
use Rattle.m2v_port.specs.Ends.{Change, Tells}
use Rattle.m2v_port.proofs.Runs.{tells}
use Rattle.m2v_port.specs.Port.{Grows}
use Rattle.m2v_plane.specs.Raw.{raw}
use Rattle.m2v_model.specs.Pieces.{limit, Limit, too_long, too_large, most_input, most_bytes, pieces}
use Rattle.m2v_model.specs.Pictures.{Events, pictures_in}
use Rattle.m2v_model.specs.ByPieces.{Between, at_start, pieces_read, end_of}
use Rattle.m2v_model.specs.Decoding.{Decodes, FaultAt, pictures}
use Rattle.m2v_model.proofs.Unique.{exactly_one}
use Rattle.m2v_dec_piece.specs.declared.answer.Fault.{Fault}
use Rattle.m2v_dec_piece.specs.declared.answer.DecodeError.{DecodeError}
use Rattle.m2v_dec_piece.specs.declared.answer.DecodeError.TheVariants as errors
use Rattle.m2v_dec_piece.specs.Cutting.{Passes}
use Rattle.m2v_decode.specs.declared.answer.Decoded.{Decoded}
use Rattle.m2v_decode.specs.Answers.{OfText, IsDecoded, IsFaulty, IsOver, Fails, AllFit, start_of, numbers_of}
use Rattle.m2v_decode.specs.Complete.{IsUnderLimits, IsPast, IsReached, IsLate, IsAnswered, Gives, counted, error_of}
use Rattle.m2v_decode.proofs.LimitLaws.{over_fault, over_over}
use Rattle.m2v_decode.proofs.Going.{ends_behind}

-- ---- under the limits

first_none : (long large : Bool) (rest : Option Limit) → (if long then Some too_long else if large then Some too_large else rest) ≡ None → (long ≡ false) × (rest ≡ None)
first_none true large rest e = absurd cc
first_none false true rest e = absurd cc
first_none false false rest e = (refl, e)

below : (most at : ℕ) → nat_le most at ≡ false → at < most
below most at e = elim (cases_lt at most) [
  | inl less ↦ less
  | inr more ↦ let t : nat_le most at ≡ true = le-leb most at more in absurd cc
]

-- each byte that passes no limit stands below the most bytes of an input
stays_low : (place k : ℕ) (bs : List ℕ) → limit place k bs ≡ None → place + k ≤ most_input → (place + k) + length bs ≤ most_input
unfolding limit
stays_low place k [] none le = omega arith
stays_low place k (b ∷ bs) none le =
    let p = first_none (nat_le most_input (place + k)) (not (nat_eq b 0) && nat_le most_bytes k) (limit place (k + 1) bs) none in
    let less : place + k < most_input = below most_input (place + k) p.0 in
    let more : (place + (k + 1)) + length bs ≤ most_input = stays_low place (k + 1) bs p.1 (omega arith) in
    omega arith

pub ends_low : (at : ℕ) (ps : List (List ℕ)) → AllFit at ps → at ≤ most_input → end_of at ps ≤ most_input
unfolding end_of
ends_low at [] fit le = le
ends_low at (p ∷ ps) fit le =
    let next : (at + 0) + length p ≤ most_input = stays_low at 0 p fit.0 (omega arith) in
    ends_low (at + length p) ps fit.1 (omega arith)

pub rest_fits : (at : ℕ) (first others : List (List ℕ)) → AllFit at (first ++ others) → AllFit (end_of at first) others
unfolding end_of
rest_fits at [] others fit = fit
rest_fits at (p ∷ first) others fit = rest_fits (at + length p) first others fit.1

pub passes_none : (at : ℕ) (others : List (List ℕ)) (l : Limit) → AllFit at others → Passes at l others → ⊥
passes_none at others l fit p =
    let f : AllFit at (p.whole ∷ p.others) = subst (AllFit at) p.are fit in
    let none : limit at 0 p.whole ≡ None = f.0 in
    let some : limit at 0 p.whole ≡ Some l = p.decides in
    absurd cc

fits_behind : (text : List ℕ) (first others : List (List ℕ)) → IsUnderLimits text → pieces text ≡ first ++ others → AllFit (end_of (start_of text) first) others
fits_behind text first others under are = rest_fits (start_of text) first others (subst (AllFit (start_of text)) are under.pieces)

pub not_long : (text : List ℕ) (held : Change) → IsOver text held errors.TooLong → IsUnderLimits text → ⊥
not_long text held o under = elim (o.over) [
  | inl more ↦
      let low = ends_low (start_of text) (o.begun).first (o.begun).fit under.start in
      absurd (omega arith)
  | inr passes ↦ passes_none _ _ _ (fits_behind text (o.begun).first o.others under (o.begun).are) passes
]

pub not_large : (text : List ℕ) (held : Change) → IsOver text held errors.PictureTooLarge → IsUnderLimits text → ⊥
not_large text held o under = passes_none _ _ _ (fits_behind text (o.begun).first o.others under (o.begun).are) o.over

-- ---- the input's bytes

pub of_text : (left : Change) (Holds : List ℕ → Type 0) (text : List ℕ) → left.old ≡ Some text → OfText left Holds → Holds text
of_text left Holds text is h = by_case left.new refl
  where
    by_case : (o : Option (List ℕ)) → left.new ≡ o → Holds text
    by_case None e =
        let none : Some text ≡ None = sym is ∙ (h.moved).was ∙ ap (option_map (λ (t : List ℕ). h.bytes ++ t)) e in
        absurd cc
    by_case (Some rest) e =
        let some : Some text ≡ Some (h.bytes ++ rest) = sym is ∙ (h.moved).was ∙ ap (option_map (λ (t : List ℕ). h.bytes ++ t)) e in
        let same : text ≡ h.bytes ++ rest = cc some in
        subst Holds (sym same) (h.told rest e)

-- ---- one decoding, one fault

pub shown_grown : (text : List ℕ) (frames : List (List ℕ)) (d : Decodes text frames) (held : Change) (n : Decoded) → IsDecoded text held n → Grows held.old (raw frames) held.new
shown_grown text frames d held n i =
    subst (λ (fs : List (List ℕ)). Grows held.old (raw fs) held.new) ((exactly_one text).one_decoding i.frames frames i.decodes d) i.grown

pub shown_counted : (text : List ℕ) (frames : List (List ℕ)) (d : Decodes text frames) (held : Change) (n : Decoded) → IsDecoded text held n → n ≡ counted d
shown_counted text frames d held n i =
    let one : i.frames ≡ frames = (exactly_one text).one_decoding i.frames frames i.decodes d in
    let tree : (i.read).tree ≡ d.tree = (exactly_one text).one_tree (i.read).tree d.tree (i.read).stream d.stream in
    let ps : pictures_in i.events ≡ pictures d.tree = ap (λ (t : Events × Between). pictures_in t.0) (i.read).told ∙ ap pictures tree in
    i.numbers ∙ (λ j. numbers_of (length (one j)) (ps j))

pub same_fault : (text : List ℕ) (f g : Fault) → FaultAt text f.place f.kind → FaultAt text g.place g.kind → f ≡ g
same_fault text f g a b =
    let e = (exactly_one text).one_fault f.place g.place f.kind g.kind a b in
    λ i. record { kind = e.1 i; place = e.0 i }

-- another limit that stops the decoder is this one
pub one_limit : (text : List ℕ) (l m : Limit) (past : IsPast text l) (first others : List (List ℕ)) → pieces text ≡ first ++ others → AllFit (start_of text) first → Passes (end_of (start_of text) first) m others → l ≡ m
one_limit text l m past first others are fit passes =
    over_over (past.begun).first first past.others others (start_of text) l m (sym (past.begun).are ∙ are) (past.begun).fit fit past.passes passes

-- a piece that begins where an input has no more bytes passes the limit of long inputs, and no other
late_limit : (place : ℕ) (bs : List ℕ) (l : Limit) → most_input ≤ place → limit place 0 bs ≡ Some l → l ≡ too_long
unfolding limit
late_limit place [] l le some = absurd cc
late_limit place (b ∷ bs) l le some =
    let t : nat_le most_input (place + 0) ≡ true = le-leb most_input (place + 0) (omega arith) in
    cc

-- a limit that was passed first is too long where it is told as that, and too large likewise
pub past_long : (text : List ℕ) (l : Limit) (held : Change) → IsPast text l → IsOver text held errors.TooLong → l ≡ too_long
past_long text l held past o = elim (o.over) [
  | inl more ↦ elim (cases_lt most_input (start_of text)) [
    | inl late ↦
        let low = ends_behind (start_of text) (past.begun).first in
        late_limit (end_of (start_of text) (past.begun).first) (past.passes).whole l (omega arith) (past.passes).decides
    | inr start ↦
        let low = ends_low (start_of text) (o.begun).first (o.begun).fit start in
        absurd (omega arith)
  ]
  | inr passes ↦ one_limit text l too_long past (o.begun).first o.others (o.begun).are (o.begun).fit passes
]

pub past_large : (text : List ℕ) (l : Limit) (held : Change) → IsPast text l → IsOver text held errors.PictureTooLarge → l ≡ too_large
past_large text l held past o = one_limit text l too_large past (o.begun).first o.others (o.begun).are (o.begun).fit o.over

-- a piece that begins behind the input's limit is too long, and not too large
pub late_large : (text : List ℕ) (held : Change) → IsLate text → IsOver text held errors.PictureTooLarge → ⊥
late_large text held late o =
    let low = ends_behind (start_of text) (o.begun).first in
    let is : too_large ≡ too_long = late_limit (end_of (start_of text) (o.begun).first) (o.over).whole too_large (omega (arith, low, late)) (o.over).decides in
    absurd cc

-- a text with a piece over a limit has no frames to show
pub past_shown : (text : List ℕ) (l : Limit) (held : Change) (n : Decoded) → IsPast text l → IsDecoded text held n → ⊥
past_shown text l held n past i =
    passes_none _ _ l (rest_fits (start_of text) (past.begun).first past.others (subst (AllFit (start_of text)) (past.begun).are i.fit)) past.passes

-- a limit that was passed first leaves no fault
pub past_fault : (text : List ℕ) (l : Limit) (held : Change) (f : Fault) → IsPast text l → IsFaulty text held f → ⊥
past_fault text l held f past i =
    over_fault (past.begun).first (i.begun).first past.others i.others at_start (start_of text) (past.events, past.between) (i.events, i.between) l f.kind f.place
    (sym (past.begun).are ∙ (i.begun).are) (i.begun).fit (past.begun).read (i.begun).read past.passes i.here

-- where the first fault is reached under the limits, no limit stops the decoder
reached_over : (text : List ℕ) (l : Limit) (held : Change) (f : Fault) (first others : List (List ℕ)) (ps : Events) (st : Between) → IsReached text f → pieces text ≡ first ++ others
    → pieces_read at_start (start_of text) first ≡ Ok (ps, st) → Passes (end_of (start_of text) first) l others → ⊥
reached_over text l held f first others ps st r are read passes =
    over_fault first (r.begun).first others r.others at_start (start_of text) (ps, st) (r.events, r.between) l f.kind f.place
    (sym are ∙ (r.begun).are) (r.begun).fit read (r.begun).read passes r.here

reached_long : (text : List ℕ) (held : Change) (f : Fault) → IsReached text f → IsOver text held errors.TooLong → ⊥
reached_long text held f r o = elim (o.over) [
  | inl more ↦
      let low = ends_low (start_of text) (o.begun).first (o.begun).fit r.start in
      absurd (omega arith)
  | inr passes ↦ reached_over text too_long held f (o.begun).first o.others o.events o.between r (o.begun).are (o.begun).read passes
]

reached_large : (text : List ℕ) (held : Change) (f : Fault) → IsReached text f → IsOver text held errors.PictureTooLarge → ⊥
reached_large text held f r o = reached_over text too_large held f (o.begun).first o.others o.events o.between r (o.begun).are (o.begun).read o.over

-- ---- no other answer

module _ (left held : Change) (text : List ℕ) (is : left.old ≡ Some text) where
  -- what is known of an error
  abbrev Why : DecodeError → Type 0
  Why e = Fails left held e

  over_of : (e : DecodeError) → OfText left (λ bytes. IsOver bytes held e) → IsOver text held e
  over_of e h = of_text left (λ bytes. IsOver bytes held e) text is h

  module _ (frames : List (List ℕ)) (d : Decodes text frames) (under : IsUnderLimits text) where
    err_decodes : (e : DecodeError) → Why e → Gives left held (Ok (counted d)) (Err e)
    err_decodes errors.Read h = Gives.read refl h.0
    err_decodes errors.Write h = Gives.write refl h.0
    err_decodes errors.Memory h = Gives.memory refl
    err_decodes errors.TooLong h = absurd (not_long text held (over_of errors.TooLong h) under)
    err_decodes errors.PictureTooLarge h = absurd (not_large text held (over_of errors.PictureTooLarge h) under)
    err_decodes (errors.Stream f) h =
        let i = of_text left (λ bytes. IsFaulty bytes held f) text is h in
        absurd ((exactly_one text).not_both frames f.place f.kind d i.fault)

    by_decodes : (result : Result Decoded DecodeError) → IfOk result (λ n. OfText left (λ bytes. IsDecoded bytes held n)) → IfErr result Why → Gives left held (Ok (counted d)) result
    by_decodes (Ok n) ok err = Gives.as_said (ap Ok (shown_counted text frames d held n (of_text left (λ bytes. IsDecoded bytes held n) text is ok)))
    by_decodes (Err e) ok err = err_decodes e err

  module _ (f : Fault) (at : FaultAt text f.place f.kind) (r : IsReached text f) where
    err_faulty : (e : DecodeError) → Why e → Gives left held (Err (errors.Stream f)) (Err e)
    err_faulty errors.Read h = Gives.read refl h.0
    err_faulty errors.Write h = Gives.write refl h.0
    err_faulty errors.Memory h = Gives.memory refl
    err_faulty errors.TooLong h = absurd (reached_long text held f r (over_of errors.TooLong h))
    err_faulty errors.PictureTooLarge h = absurd (reached_large text held f r (over_of errors.PictureTooLarge h))
    err_faulty (errors.Stream g) h =
        let i = of_text left (λ bytes. IsFaulty bytes held g) text is h in
        Gives.as_said (ap (λ (x : Fault). Err (errors.Stream x)) (same_fault text g f i.fault at))

    by_fault : (result : Result Decoded DecodeError) → IfOk result (λ n. OfText left (λ bytes. IsDecoded bytes held n)) → IfErr result Why → Gives left held (Err (errors.Stream f)) result
    by_fault (Ok n) ok err =
        let i = of_text left (λ bytes. IsDecoded bytes held n) text is ok in
        absurd ((exactly_one text).not_both i.frames f.place f.kind i.decodes at)
    by_fault (Err e) ok err = err_faulty e err

  module _ (l : Limit) (past : IsPast text l) where
    err_over : (e : DecodeError) → Why e → Gives left held (Err (error_of l)) (Err e)
    err_over errors.Read h = Gives.read refl h.0
    err_over errors.Write h = Gives.write refl h.0
    err_over errors.Memory h = Gives.memory refl
    err_over errors.TooLong h = Gives.as_said (ap (λ (m : Limit). Err (error_of m)) (sym (past_long text l held past (over_of errors.TooLong h))))
    err_over errors.PictureTooLarge h = Gives.as_said (ap (λ (m : Limit). Err (error_of m)) (sym (past_large text l held past (over_of errors.PictureTooLarge h))))
    err_over (errors.Stream f) h = absurd (past_fault text l held f past (of_text left (λ bytes. IsFaulty bytes held f) text is h))

    by_limit : (result : Result Decoded DecodeError) → IfOk result (λ n. OfText left (λ bytes. IsDecoded bytes held n)) → IfErr result Why → Gives left held (Err (error_of l)) result
    by_limit (Ok n) ok err = absurd (past_shown text l held n past (of_text left (λ bytes. IsDecoded bytes held n) text is ok))
    by_limit (Err e) ok err = err_over e err

  module _ (late : IsLate text) where
    err_late : (e : DecodeError) → Why e → Gives left held (Err errors.TooLong) (Err e)
    err_late errors.Read h = Gives.read refl h.0
    err_late errors.Write h = Gives.write refl h.0
    err_late errors.Memory h = Gives.memory refl
    err_late errors.TooLong h = Gives.as_said refl
    err_late errors.PictureTooLarge h = absurd (late_large text held late (over_of errors.PictureTooLarge h))
    err_late (errors.Stream f) h =
        let i = of_text left (λ bytes. IsFaulty bytes held f) text is h in
        let start = i.start in
        absurd (omega (arith, start, late))

    by_late : (result : Result Decoded DecodeError) → IfOk result (λ n. OfText left (λ bytes. IsDecoded bytes held n)) → IfErr result Why → Gives left held (Err errors.TooLong) result
    by_late (Ok n) ok err =
        let i = of_text left (λ bytes. IsDecoded bytes held n) text is ok in
        let start = i.start in
        absurd (omega (arith, start, late))
    by_late (Err e) ok err = err_late e err

pub answered : (left held : Change) (result : Result Decoded DecodeError) → IfOk result (λ n. OfText left (λ bytes. IsDecoded bytes held n)) → IfErr result (Fails left held) → Tells left (IsAnswered left held result)
answered left held result ok err = tells left (IsAnswered left held result) (λ text is. record {
  decodes = λ frames d under. by_decodes left held text is frames d under result ok err;
  faulty = λ f at r. by_fault left held text is f at r result ok err;
  over = λ l past. by_limit left held text is l past result ok err;
  late = λ long. by_late left held text is long result ok err;
})
