-- What follows for a text where no group was found, and the one answer.
use Rattle.std.proofs.Common.{◌≡◌, ◌⊎◌, ℕ, zero, suc, ◌+◌, ◌-◌, ◌*◌, ◌<◌, ◌≤◌, Bool, true, false, List, [], ◌∷◌, ◌++◌, length, take, drop, Option, Some, None, Result, Ok, Err, inl, inr, refl, sym, ap, subst, ◌∙◌, append_assoc, arith}
use Rattle.std.specs.Prelude.{nat_eq, nat_le, nat_lt, not, IfOk, IfErr, ◌&&◌, ◌||◌, if◌then◌else◌}
use Rattle.std.proofs.lemmas.Bool.{cases_Bool, cases_lt, le-leb}
use Rattle.m2v_port.specs.Ends.{Change, Tells}
use Rattle.m2v_port.specs.Port.{Moves, Grows, GrowsByPrefix}
use Rattle.m2v_port.proofs.Runs.{tells, grows_by_nothing, moves_nothing}
use Rattle.m2v_model.specs.Units.{Units, cut, joined}
use Rattle.m2v_model.specs.Pieces.{pieces, limit, Limit, too_long, too_large, most_input}
use Rattle.m2v_model.specs.ByPieces.{end_of}
use Rattle.m2v_decode.specs.m2v_dec_piece.declared.answer.DecodeError.{DecodeError}
use Rattle.m2v_decode.specs.m2v_dec_piece.declared.answer.DecodeError.TheVariants as reading
use Rattle.m2v_decode.specs.m2v_dec_piece.Cutting.{PieceStops, Passes}
use Rattle.m2v_decode.specs.Answers.{start_of, AllFit, OfText, OfTaken}
use Rattle.m2v_decode.proofs.AnswerLaws.{of_text, ends_low}
use Rattle.m2v_decode.proofs.Going.{ends_behind}
use Rattle.m2v_law_group.specs.Groups.{groups_in, group_headers, from_group, before_group, from_sequence, to_end, stream_units, is_standalone, stands_alone}
use Rattle.m2v_cut.specs.declared.answer.CutError.{CutError}
use Rattle.m2v_cut.specs.declared.answer.CutError.TheVariants as errors
use Rattle.m2v_cut.specs.declared.answer.CutSummary.{CutSummary}
use Rattle.m2v_cut.specs.Answers.{units_of, groups_of, is_field, first_picture, to_group, to_frame, first_if, needed, limit_of, limit_among, unlimited, by_limit, answer_to, copied, of_pieces, fitting, IsOver, IsRefused, IsCutOut, IsWhole, IsPart, Fails, Gives}
use Rattle.m2v_cut.specs.Progress.{all_groups, HasFew, Stops, StopsBefore, FindFails}
use Rattle.m2v_cut.proofs.Shapes.{pieces_split}
use Rattle.m2v_cut.proofs.Places.{none_holds}
use Rattle.m2v_cut.proofs.Written.{splits_groups}
use Rattle.m2v_cut.proofs.Prefixes.{first_splits}
use Rattle.m2v_cut.proofs.Limits.{lt_true, lt_false, to_group_on, to_frame_on, among_fit, among_over, fitting_over, late_passes}

-- ---- nothing was written

-- without group n nothing is copied
pub copied_few : (text : List ℕ) (from count : ℕ) → group_headers (stream_units text) ≤ from → copied text from count ≡ []
copied_few text from count few =
    let n = none_holds from (stream_units text) few in
    let off : is_standalone text from ≡ false = ap (stands_alone (before_group from (stream_units text))) n.0 in
    rw off refl

pub copied_none : (from count : ℕ) → copied [] from count ≡ []
unfolding cut from_sequence to_end group_headers
copied_none from count = copied_few [] from count (omega arith)

pub grows_same : (held : Change) (bytes : List ℕ) → held.new ≡ held.old → bytes ≡ [] → Grows held.old bytes held.new
grows_same held bytes same e =
    subst (λ (b : List ℕ). Grows held.old b held.new) (sym e) (subst (λ (h : Option (List ℕ)). Grows held.old [] h) (sym same) (grows_by_nothing held.old))

pub part_none : (bytes text : List ℕ) (from count : ℕ) (held : Change) → held.new ≡ held.old → IsPart bytes text from count held
part_none bytes text from count held same = record {
  first = [];
  others = pieces text;
  are = refl;
  within = λ some. absurd (omega arith);
  whole = [];
  is = inl (sym (copied_none from count));
  grown = record { part = []; rest = []; split = refl; grown = grows_same held [] same refl };
}

pub taken_none : {H : List ℕ → List ℕ → Type 0} (left held : Change) (from count : ℕ) → held.new ≡ held.old → OfTaken left H → OfTaken left (λ bytes text. IsPart bytes text from count held)
taken_none left held from count same t = record { bytes = t.bytes; moved = t.moved; told = λ rest e. part_none t.bytes (t.bytes ++ rest) from count held same }

-- ---- no group

pub low_start : (text : List ℕ) (ps : List (List ℕ)) → start_of text ≤ most_input → limit_of text ps ≡ limit_among (start_of text) ps
low_start text ps low = rw (lt_false most_input (start_of text) low) refl

pub high_start : (text : List ℕ) (ps : List (List ℕ)) → most_input < start_of text → limit_of text ps ≡ Some too_long
high_start text ps high = rw (lt_true most_input (start_of text) high) refl

pub groups_text : (text : List ℕ) → groups_in text ≡ all_groups (pieces text)
groups_text text = splits_groups (pieces text) (stream_units text) (pieces_split text)

pub refused_few : (from count have need : ℕ) (text : List ℕ) (held : Change) → held.new ≡ held.old → HasFew from have need text → IsRefused text from count held (errors.NoGroup have need)
refused_few from count have need text held same f =
    let g = groups_text text in
    let off : nat_lt from (groups_in text) ≡ false = lt_false from (groups_in text) (omega (arith, g, f.have_is, f.few)) in
    let read : needed text from count ≡ pieces text = rw off refl in
    let none : limit_of text (needed text from count) ≡ None = ap (limit_of text) read ∙ low_start text (pieces text) f.start ∙ among_fit (pieces text) (start_of text) f.fit in
    let said : unlimited text from count ≡ Err (errors.NoGroup (groups_in text) (from + 1)) = rw off refl in
    record {
      answer = (λ i. by_limit (none i) (said i)) ∙ (λ i. Err (errors.NoGroup ((g ∙ sym f.have_is) i) (sym f.need_is i)));
      same = same;
    }

-- ---- a limit before the group

group_next : (n : ℕ) (q : List ℕ) (qs : List (List ℕ)) → (rest : List (List ℕ)) × (to_group n (q ∷ qs) ≡ q ∷ rest)
unfolding to_group
group_next n q qs = elim (cases_Bool (nat_lt n (groups_of q))) [
  | inl on ↦ ([], rw on refl)
  | inr off ↦ (to_group (n - groups_of q) qs, rw off refl)
]

frame_next : (n : ℕ) (q : List ℕ) (qs : List (List ℕ)) → (rest : List (List ℕ)) × (to_frame n (q ∷ qs) ≡ q ∷ rest)
unfolding to_frame
frame_next n q qs = elim (cases_Bool (nat_lt n (groups_of q))) [
  | inl on ↦ (first_if (is_field (first_picture (drop 1 (from_group n (units_of q))))) qs, rw on refl)
  | inr off ↦ (to_frame (n - groups_of q) qs, rw off refl)
]

pub group_reads : (ps : List (List ℕ)) (q : List ℕ) (qs : List (List ℕ)) (n : ℕ) → all_groups ps ≤ n → (rest : List (List ℕ)) × (to_group n (ps ++ q ∷ qs) ≡ ps ++ q ∷ rest)
group_reads ps q qs n le =
    let r = group_next (n - all_groups ps) q qs in
    (r.0, to_group_on ps (q ∷ qs) n le ∙ ap (λ (l : List (List ℕ)). ps ++ l) r.1)

pub frame_reads : (ps : List (List ℕ)) (q : List ℕ) (qs : List (List ℕ)) (n : ℕ) → all_groups ps ≤ n → (rest : List (List ℕ)) × (to_frame n (ps ++ q ∷ qs) ≡ ps ++ q ∷ rest)
frame_reads ps q qs n le =
    let r = frame_next (n - all_groups ps) q qs in
    (r.0, to_frame_on ps (q ∷ qs) n le ∙ ap (λ (l : List (List ℕ)). ps ++ l) r.1)

-- the pieces up to the group's are read, whatever is answered
pub needed_on : (text : List ℕ) (first : List (List ℕ)) (q : List ℕ) (qs : List (List ℕ)) (from count : ℕ) → pieces text ≡ first ++ q ∷ qs → all_groups first ≤ from → (rest : List (List ℕ)) × (needed text from count ≡ first ++ q ∷ rest)
needed_on text first q qs from count are few = by_case (nat_lt from (groups_in text)) (is_standalone text from)
  where
    by_case : (a b : Bool) → (rest : List (List ℕ)) × ((if a then if b then to_group (from + count) (pieces text) else to_frame from (pieces text) else pieces text) ≡ first ++ q ∷ rest)
    by_case true true = let r = group_reads first q qs (from + count) (omega (arith, few)) in (r.0, ap (to_group (from + count)) are ∙ r.1)
    by_case true false = let r = frame_reads first q qs from few in (r.0, ap (to_frame from) are ∙ r.1)
    by_case false b = (qs, are)

-- behind the input's limit no piece fits
pub late_fitting : (ps : List (List ℕ)) (at : ℕ) → most_input ≤ at → of_pieces (fitting at ps) ≡ []
unfolding fitting limit
late_fitting [] at le = refl
late_fitting ([] ∷ ps) at le = late_fitting ps (at + 0) (omega (arith, le))
late_fitting ((b ∷ bs) ∷ ps) at le = rw (late_passes at b bs le) refl

abbrev pub error_of : Limit → CutError
error_of too_long = errors.TooLong
error_of too_large = errors.PictureTooLarge

pub limit_error : (l : Limit) (answer : Result CutSummary CutError) → by_limit (Some l) answer ≡ Err (error_of l)
limit_error too_long answer = refl
limit_error too_large answer = refl

-- the bytes before the first piece pass the input's limit
pub over_start : (text : List ℕ) (from count : ℕ) (held : Change) → most_input < start_of text → held.new ≡ held.old → IsOver text from count held errors.TooLong
over_start text from count held high same = record {
  answer = ap (λ (o : Option Limit). by_limit o (unlimited text from count)) (high_start text (needed text from count) high);
  grown = grows_same held _ same (ap (λ (t : List ℕ). copied t from count) (late_fitting (pieces text) (start_of text) (omega (arith, high))) ∙ copied_none from count);
}

-- a piece that begins where an input has no more bytes passes the limit of long inputs, and no other
late_limit : (place : ℕ) (bs : List ℕ) (l : Limit) → most_input ≤ place → limit place 0 bs ≡ Some l → l ≡ too_long
unfolding limit
late_limit place [] l le some = absurd cc
late_limit place (b ∷ bs) l le some =
    let t : Some l ≡ Some too_long = sym some ∙ late_passes place b bs le in
    cc

-- a piece that is read passes a limit behind others, of which nothing is copied
pub over_piece : (text : List ℕ) (from count : ℕ) (held : Change) (first : List (List ℕ)) (q : List ℕ) (qs rest : List (List ℕ)) (l : Limit) → start_of text ≤ most_input → pieces text ≡ first ++ q ∷ qs → AllFit (start_of text) first → limit (end_of (start_of text) first) 0 q ≡ Some l
    → needed text from count ≡ first ++ q ∷ rest → Grows held.old (copied (of_pieces first) from count) held.new → IsOver text from count held (error_of l)
over_piece text from count held first q qs rest l low are fit over reads grown = record {
  answer = ap (λ (o : Option Limit). by_limit o (unlimited text from count)) (ap (limit_of text) reads ∙ low_start text (first ++ q ∷ rest) low ∙ among_over first (start_of text) q rest l fit over) ∙ limit_error l (unlimited text from count);
  grown =
      let same : fitting (start_of text) (pieces text) ≡ first = ap (fitting (start_of text)) are ∙ fitting_over first (start_of text) q qs l fit over in
      subst (λ (ps : List (List ℕ)). Grows held.old (copied (of_pieces ps) from count) held.new) (sym same) grown;
}

-- pieces without group n
pub copied_before : (text : List ℕ) (first others : List (List ℕ)) (from count : ℕ) → pieces text ≡ first ++ others → all_groups first ≤ from → copied (of_pieces first) from count ≡ []
copied_before text first others from count are few =
    copied_few (of_pieces first) from count (omega (arith, splits_groups first (stream_units (of_pieces first)) (first_splits text first others are), few))

before_piece : (text : List ℕ) (from count : ℕ) (held : Change) (first : List (List ℕ)) (q : List ℕ) (qs : List (List ℕ)) (l : Limit) → all_groups first ≤ from → held.new ≡ held.old → pieces text ≡ first ++ q ∷ qs → AllFit (start_of text) first → limit (end_of (start_of text) first) 0 q ≡ Some l
    → IsOver text from count held (error_of l)
before_piece text from count held first q qs l few same are fit over = elim (cases_lt most_input (start_of text)) [
  | inl high ↦
      let low = ends_behind (start_of text) first in
      let late : l ≡ too_long = late_limit (end_of (start_of text) first) q l (omega (arith, low, high)) over in
      subst (λ (x : Limit). IsOver text from count held (error_of x)) (sym late) (over_start text from count held high same)
  | inr start ↦
      let r = needed_on text first q qs from count are few in
      over_piece text from count held first q qs r.0 l start are fit over r.1 (grows_same held _ same (copied_before text first (q ∷ qs) from count are few))
]

passes_before : (text : List ℕ) (from count : ℕ) (held : Change) (first others : List (List ℕ)) (l : Limit) → all_groups first ≤ from → held.new ≡ held.old → pieces text ≡ first ++ others → AllFit (start_of text) first → Passes (end_of (start_of text) first) l others
    → IsOver text from count held (error_of l)
passes_before text from count held first others l few same are fit p =
    before_piece text from count held first p.whole p.others l few same (are ∙ ap (λ (ps : List (List ℕ)). first ++ ps) p.are) fit p.decides

-- the input's limit is passed before the first piece
pub behind_high : (text : List ℕ) (ps : List (List ℕ)) → AllFit (start_of text) ps → most_input < end_of (start_of text) ps → most_input < start_of text
behind_high text ps fit more = elim (cases_lt most_input (start_of text)) [
  | inl high ↦ high
  | inr start ↦ let low = ends_low (start_of text) ps fit start in absurd (omega (arith, low, more))
]

pub before_long : (text : List ℕ) (from count : ℕ) (held : Change) → held.new ≡ held.old → StopsBefore from text reading.TooLong → IsOver text from count held errors.TooLong
before_long text from count held same s = elim (s.stops).over [
  | inl more ↦ over_start text from count held (behind_high text s.first (s.stops).fit more) same
  | inr p ↦ passes_before text from count held s.first (s.stops).others too_long s.few same (s.stops).are (s.stops).fit p
]

pub before_large : (text : List ℕ) (from count : ℕ) (held : Change) → held.new ≡ held.old → StopsBefore from text reading.PictureTooLarge → IsOver text from count held errors.PictureTooLarge
before_large text from count held same s = passes_before text from count held s.first (s.stops).others too_large s.few same (s.stops).are (s.stops).fit (s.stops).over

-- ---- the group wasn't found

pub find_told : (from count : ℕ) (left held : Change) (e : CutError) → held.new ≡ held.old → FindFails from left e → Fails from count left held e
find_told from count left held errors.Read same f = (f.0, taken_none left held from count same f.1)
find_told from count left held errors.Write same f = absurd f
find_told from count left held (errors.NoGroup have need) same f = record { bytes = f.bytes; moved = f.moved; told = λ rest e. refused_few from count have need (f.bytes ++ rest) held same (f.told rest e) }
find_told from count left held (errors.NotCuttable place) same f = absurd f
find_told from count left held errors.TooLong same f = record { bytes = f.bytes; moved = f.moved; told = λ rest e. before_long (f.bytes ++ rest) from count held same (f.told rest e) }
find_told from count left held errors.PictureTooLarge same f = record { bytes = f.bytes; moved = f.moved; told = λ rest e. before_large (f.bytes ++ rest) from count held same (f.told rest e) }
find_told from count left held errors.Memory same f = taken_none left held from count same f

-- nothing was read
pub memory_told : (from count : ℕ) (left held : Change) → left.new ≡ left.old → held.new ≡ held.old → Fails from count left held errors.Memory
memory_told from count left held still same = record {
  bytes = [];
  moved = subst (Moves left.old []) (sym still) (moves_nothing left.old);
  told = λ rest e. part_none [] rest from count held same;
}

-- ---- the one answer

module _ (left held : Change) (from count : ℕ) (text : List ℕ) (is : left.old ≡ Some text) where
  err_answered : (e : CutError) → Fails from count left held e → Gives left held (answer_to text from count) (Err e)
  err_answered errors.Read h = Gives.read refl h.0
  err_answered errors.Write h = Gives.write refl h.0
  err_answered errors.Memory h = Gives.memory refl
  err_answered (errors.NoGroup have need) h = Gives.as_said (sym (of_text left (λ t. IsRefused t from count held (errors.NoGroup have need)) text is h).answer)
  err_answered (errors.NotCuttable place) h = Gives.as_said (sym (of_text left (λ t. IsRefused t from count held (errors.NotCuttable place)) text is h).answer)
  err_answered errors.TooLong h = Gives.as_said (sym (of_text left (λ t. IsOver t from count held errors.TooLong) text is h).answer)
  err_answered errors.PictureTooLarge h = Gives.as_said (sym (of_text left (λ t. IsOver t from count held errors.PictureTooLarge) text is h).answer)

  one_answered : (result : Result CutSummary CutError) → IfOk result (λ s. OfText left (λ t. IsCutOut t from count held s)) → IfErr result (Fails from count left held) → Gives left held (answer_to text from count) result
  one_answered (Ok s) ok err = Gives.as_said (sym (of_text left (λ t. IsCutOut t from count held s) text is ok).answer)
  one_answered (Err e) ok err = err_answered e err

pub answered : (left held : Change) (from count : ℕ) (result : Result CutSummary CutError) → IfOk result (λ s. OfText left (λ text. IsCutOut text from count held s)) → IfErr result (Fails from count left held) → Tells left (λ text. Gives left held (answer_to text from count) result)
answered left held from count result ok err = tells left (λ text. Gives left held (answer_to text from count) result) (λ text is. one_answered left held from count text is result ok err)
