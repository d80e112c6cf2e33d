-- Which byte passes a limit, as bytes become sure one after another.
use Rattle.std.proofs.Common.{◌≡◌, ℕ, zero, suc, ◌+◌, ◌≤◌, Bool, true, false, List, [], ◌∷◌, ◌++◌, length, take, set, Option, Some, None, refl, sym, ap, subst, ◌∙◌, append_assoc, arith, inl, inr}
use Rattle.std.specs.Prelude.{nat_eq, nat_le, nat_lt, not, ◌&&◌, if◌then◌else◌}
use Rattle.std.proofs.lemmas.Bool.{cases_Bool, ltb-true, lt-leb, lt-ltb, le-ltb}
use Rattle.std.proofs.lemmas.List.{append-nil, length-append}
use Rattle.m2v_model.specs.declared.phase.Phase.{Phase}
use Rattle.m2v_model.specs.declared.phase.Phase.TheVariants.{Before, Headers, Picture}
use Rattle.m2v_model.specs.Pieces.{limit, Limit, too_long, too_large, most_input, most_bytes}
use Rattle.m2v_dec_piece.specs.declared.answer.DecodeError.{DecodeError}
use Rattle.m2v_dec_piece.specs.declared.answer.DecodeError.TheVariants as errors
use Rattle.m2v_dec_piece.specs.Cutting.{Held, Fits, open_pieces, limit_in, limit_of, behind, sure_after, place_after, open_start, LimitErr, PieceStops, prefix}
use Rattle.m2v_dec_piece.proofs.PieceLaws.{Begins, begins_headers, begins_picture}

-- the limit that the first byte passes, or that of the others
abbrev or_else : Option Limit → Option Limit → Option Limit
or_else (Some l) rest = Some l
or_else None rest = rest

limit_first : (place k b : ℕ) (bs : List ℕ) → limit place k (b ∷ bs) ≡ or_else (limit place k (b ∷ [])) (limit place (k + 1) bs)
unfolding limit
limit_first place k b bs = by_cases (nat_le most_input (place + k)) (not (nat_eq b 0) && nat_le most_bytes k)
  where
    by_cases : (long large : Bool) → (if long then Some too_long else if large then Some too_large else limit place (k + 1) bs) ≡ or_else (if long then Some too_long else if large then Some too_large else None) (limit place (k + 1) bs)
    by_cases true large = refl
    by_cases false true = refl
    by_cases false false = refl

or_assoc : (a b c : Option Limit) → or_else (or_else a b) c ≡ or_else a (or_else b c)
or_assoc (Some l) b c = refl
or_assoc None b c = refl

limit_append : (place k : ℕ) (xs ys : List ℕ) → limit place k (xs ++ ys) ≡ or_else (limit place k xs) (limit place (k + length xs) ys)
unfolding limit
limit_append place k [] ys = let e : k + length {A = ℕ} [] ≡ k = omega arith in rw e refl
limit_append place k (x ∷ xs) ys =
    let e : k + 1 + length xs ≡ k + length (x ∷ xs) = omega arith in
    limit_first place k x (xs ++ ys)
    ∙ ap (or_else (limit place k (x ∷ []))) (limit_append place (k + 1) xs ys ∙ ap (λ (n : ℕ). or_else (limit place (k + 1) xs) (limit place n ys)) e)
    ∙ sym (or_assoc (limit place k (x ∷ [])) (limit place (k + 1) xs) (limit place (k + length (x ∷ xs)) ys))
    ∙ ap (λ (o : Option Limit). or_else o (limit place (k + length (x ∷ xs)) ys)) (sym (limit_first place k x xs))

-- bytes that pass no limit, and others behind them
pub limit_more : (place k : ℕ) (xs ys : List ℕ) → limit place k xs ≡ None → limit place k (xs ++ ys) ≡ limit place (k + length xs) ys
limit_more place k xs ys none = limit_append place k xs ys ∙ ap (λ (o : Option Limit). or_else o (limit place (k + length xs) ys)) none

-- what passes a limit does so whatever follows
pub limit_stays : (place k : ℕ) (xs ys : List ℕ) (l : Limit) → limit place k xs ≡ Some l → limit place k (xs ++ ys) ≡ Some l
limit_stays place k xs ys l some = limit_append place k xs ys ∙ ap (λ (o : Option Limit). or_else o (limit place (k + length xs) ys)) some

-- few bytes pass no limit
pub few_fit : (place k : ℕ) (bs : List ℕ) → place + (k + length bs) ≤ most_input → k + length bs ≤ most_bytes → limit place k bs ≡ None
unfolding limit
few_fit place k [] long large = refl
few_fit place k (b ∷ bs) long large =
    let one : nat_le most_input (place + k) ≡ false = lt-leb _ _ (omega (arith, long)) in
    let other : nat_le most_bytes k ≡ false = lt-leb _ _ (omega (arith, large)) in
    let rest = few_fit place (k + 1) bs (omega (arith, long)) (omega (arith, large)) in
    rw (one, other) (by_case (not (nat_eq b 0)) rest)
  where
    by_case : (x : Bool) {o : Option Limit} → o ≡ None → (if x && false then Some too_large else o) ≡ None
    by_case true e = e
    by_case false e = e

-- ---- of what is held

parts_more : (phase : Phase) (place : ℕ) (sure : List ℕ) (ahead : ℕ) (xs ys : List ℕ)
    → behind (behind (record { phase = phase; place = place; sure = sure; ahead = ahead }) xs) ys ≡ behind (record { phase = phase; place = place; sure = sure; ahead = ahead }) (xs ++ ys)
parts_more Before place sure ahead xs ys =
    let e : place + length xs + length ys ≡ place + length (xs ++ ys) = omega (arith, length-append xs ys) in
    rw e refl
parts_more Headers place sure ahead xs ys = rw (append_assoc sure xs ys) refl
parts_more Picture place sure ahead xs ys = rw (append_assoc sure xs ys) refl

-- bytes that are sure one after another
pub behind_more : (h : Held) (xs ys : List ℕ) → behind (behind h xs) ys ≡ behind h (xs ++ ys)
behind_more h xs ys = parts_more h.phase h.place h.sure h.ahead xs ys

in_more : (phase : Phase) (place : ℕ) (sure xs ys : List ℕ) → limit_in phase place sure xs ≡ None → limit_in phase place sure (xs ++ ys) ≡ limit_in phase (place_after phase place xs) (sure_after phase sure xs) ys
unfolding limit_in
in_more Before place sure xs ys none =
    let e : place + length (xs ++ ys) ≡ place + length xs + length ys = omega (arith, length-append xs ys) in
    rw e refl
in_more Headers place sure xs ys none = limit_more place (length sure) xs ys none ∙ ap (λ (n : ℕ). limit place n ys) (sym (length-append sure xs))
in_more Picture place sure xs ys none = limit_more place (length sure) xs ys none ∙ ap (λ (n : ℕ). limit place n ys) (sym (length-append sure xs))

pub limit_of_more : (h : Held) (xs ys : List ℕ) → limit_of h xs ≡ None → limit_of h (xs ++ ys) ≡ limit_of (behind h xs) ys
limit_of_more h xs ys none = in_more h.phase h.place h.sure xs ys none

in_stays : (phase : Phase) (place : ℕ) (sure xs ys : List ℕ) (l : Limit) → limit_in phase place sure xs ≡ Some l → limit_in phase place sure (xs ++ ys) ≡ Some l
unfolding limit_in
in_stays Before place sure xs ys l some =
    elim (cases_Bool (nat_lt most_input (place + length xs))) [
      | inl on ↦
          let now : nat_lt most_input (place + length (xs ++ ys)) ≡ true = lt-ltb _ _ (omega (arith, ltb-true _ _ on, length-append xs ys)) in
          rw now (rw on at some)
      | inr off ↦ absurd (let none : None ≡ Some l = rw off at some in cc)
    ]
in_stays Headers place sure xs ys l some = limit_stays place (length sure) xs ys l some
in_stays Picture place sure xs ys l some = limit_stays place (length sure) xs ys l some

pub limit_of_stays : (h : Held) (xs ys : List ℕ) (l : Limit) → limit_of h xs ≡ Some l → limit_of h (xs ++ ys) ≡ Some l
limit_of_stays h xs ys l some = in_stays h.phase h.place h.sure xs ys l some

parts_none : (phase : Phase) (place : ℕ) (sure : List ℕ) (ahead : ℕ) → behind (record { phase = phase; place = place; sure = sure; ahead = ahead }) [] ≡ record { phase = phase; place = place; sure = sure; ahead = ahead }
parts_none Before place sure ahead = let e : place + length {A = ℕ} [] ≡ place = omega arith in rw e refl
parts_none Headers place sure ahead = rw (append-nil sure) refl
parts_none Picture place sure ahead = rw (append-nil sure) refl

pub behind_none : (h : Held) → h ≡ behind h []
behind_none h = sym (parts_none h.phase h.place h.sure h.ahead)

in_none : (phase : Phase) (place : ℕ) (sure : List ℕ) → place ≤ most_input → limit_in phase place sure [] ≡ None
unfolding limit_in limit
in_none Before place sure le = let off : nat_lt most_input (place + length {A = ℕ} []) ≡ false = le-ltb _ _ (omega (arith, le)) in rw off refl
in_none Headers place sure le = refl
in_none Picture place sure le = refl

pub limit_of_none : (h : Held) → h.place ≤ most_input → limit_of h [] ≡ None
limit_of_none h le = in_none h.phase h.place h.sure le

-- a limit that is passed is passed whatever follows
pub err_stays : (h : Held) (xs ys : List ℕ) (e : DecodeError) → LimitErr (limit_of h xs) e → LimitErr (limit_of h (xs ++ ys)) e
err_stays h xs ys errors.TooLong some = limit_of_stays h xs ys too_long some
err_stays h xs ys errors.PictureTooLarge some = limit_of_stays h xs ys too_large some
err_stays h xs ys errors.Memory some = tt
err_stays h xs ys errors.Read some = some
err_stays h xs ys errors.Write some = some
err_stays h xs ys (errors.Stream f) some = some

-- ---- what stops a cutter

-- the bytes of a piece that are sure pass a limit, and so does the piece
pub stops_piece : (place : ℕ) (bytes : List ℕ) (pieces : List (List ℕ)) (e : DecodeError) → Begins bytes pieces → LimitErr (limit place 0 bytes) e → PieceStops place pieces e
stops_piece place bytes pieces errors.TooLong b some = inr (record { whole = bytes ++ b.more; others = b.others; are = b.are; decides = limit_stays place 0 bytes b.more too_long some })
stops_piece place bytes pieces errors.PictureTooLarge b some = record { whole = bytes ++ b.more; others = b.others; are = b.are; decides = limit_stays place 0 bytes b.more too_large some }
stops_piece place bytes pieces errors.Memory b some = tt
stops_piece place bytes pieces errors.Read b some = some
stops_piece place bytes pieces errors.Write b some = some
stops_piece place bytes pieces (errors.Stream f) b some = some

before_large : (b : Bool) → (if b then Some too_long else None) ≡ Some too_large → ⊥
before_large true e = absurd cc
before_large false e = absurd cc

before_long : (b : Bool) → (if b then Some too_long else None) ≡ Some too_long → b ≡ true
before_long true e = refl
before_long false e = absurd cc

-- bytes before the first piece pass the input's limit
pub stops_before : (place start : ℕ) (xs : List ℕ) (pieces : List (List ℕ)) (e : DecodeError) → place + length xs ≤ start → LimitErr (limit_in Before place [] xs) e → PieceStops start pieces e
unfolding limit_in
stops_before place start xs pieces errors.TooLong le some = inl (omega (arith, le, ltb-true _ _ (before_long (nat_lt most_input (place + length xs)) some)))
stops_before place start xs pieces errors.PictureTooLarge le some = absurd (before_large (nat_lt most_input (place + length xs)) some)
stops_before place start xs pieces errors.Memory le some = tt
stops_before place start xs pieces errors.Read le some = absurd some
stops_before place start xs pieces errors.Write le some = absurd some
stops_before place start xs pieces (errors.Stream f) le some = absurd some

pub started : (place : ℕ) (xs t : List ℕ) → place + length xs ≤ open_start Before (place + length xs) t
unfolding open_start
started place xs t = omega arith

pub same_before : (place : ℕ) (sure xs : List ℕ) (e : DecodeError) → LimitErr (limit_in Before place sure xs) e → LimitErr (limit_in Before place [] xs) e
unfolding limit_in
same_before place sure xs e some = some

pub headers_begin : (sure : List ℕ) (b : ℕ) (bs t : List ℕ) → Begins (sure ++ b ∷ bs) (open_pieces Headers (sure ++ b ∷ bs) t)
headers_begin [] b bs t = begins_headers b bs t
headers_begin (x ∷ sure) b bs t = begins_headers x (sure ++ b ∷ bs) t

pub picture_begin : (sure : List ℕ) (b : ℕ) (bs t : List ℕ) → Begins (sure ++ b ∷ bs) (open_pieces Picture (sure ++ b ∷ bs) t)
picture_begin [] b bs t = begins_picture b bs t
picture_begin (x ∷ sure) b bs t = begins_picture x (sure ++ b ∷ bs) t

pub grown : (place : ℕ) (sure xs : List ℕ) (e : DecodeError) → limit place 0 sure ≡ None → LimitErr (limit_in Headers place sure xs) e → LimitErr (limit place 0 (sure ++ xs)) e
unfolding limit_in
grown place sure xs e fits some = let n : 0 + length sure ≡ length sure = omega arith in subst (λ (o : Option Limit). LimitErr o e) (sym (limit_more place 0 sure xs fits ∙ rw n refl)) some

pub grown_picture : (place : ℕ) (sure xs : List ℕ) (e : DecodeError) → limit place 0 sure ≡ None → LimitErr (limit_in Picture place sure xs) e → LimitErr (limit place 0 (sure ++ xs)) e
unfolding limit_in
grown_picture place sure xs e fits some = let n : 0 + length sure ≡ length sure = omega arith in subst (λ (o : Option Limit). LimitErr o e) (sym (limit_more place 0 sure xs fits ∙ rw n refl)) some

-- bytes that would be sure pass a limit: the next piece does, whatever follows them
pub stopped : (h : Held) (b : ℕ) (bs t : List ℕ) (e : DecodeError) → limit h.place 0 h.sure ≡ None → LimitErr (limit_of h (b ∷ bs)) e
    → PieceStops (open_start h.phase (place_after h.phase h.place (b ∷ bs)) t) (open_pieces h.phase (sure_after h.phase h.sure (b ∷ bs)) t) e
unfolding open_start
stopped h b bs t e fits some = by_phase h.phase h.place h.sure fits some
  where
    by_phase : (phase : Phase) (place : ℕ) (sure : List ℕ) → limit place 0 sure ≡ None → LimitErr (limit_in phase place sure (b ∷ bs)) e
        → PieceStops (open_start phase (place_after phase place (b ∷ bs)) t) (open_pieces phase (sure_after phase sure (b ∷ bs)) t) e
    by_phase Before place sure fits some = stops_before place _ (b ∷ bs) _ e (started place (b ∷ bs) t) (same_before place sure (b ∷ bs) e some)
    by_phase Headers place sure fits some = stops_piece place (sure ++ b ∷ bs) _ e (headers_begin sure b bs t) (grown place sure (b ∷ bs) e fits some)
    by_phase Picture place sure fits some = stops_piece place (sure ++ b ∷ bs) _ e (picture_begin sure b bs t) (grown_picture place sure (b ∷ bs) e fits some)

in_fits : (phase : Phase) (place : ℕ) (sure xs : List ℕ) → limit place 0 sure ≡ None → (phase ≡ Before → sure ≡ []) → limit_in phase place sure xs ≡ None → limit (place_after phase place xs) 0 (sure_after phase sure xs) ≡ None
unfolding limit_in limit
in_fits Before place sure xs fits none more = rw (none refl) refl
in_fits Headers place sure xs fits none more = let n : 0 + length sure ≡ length sure = omega arith in limit_more place 0 sure xs fits ∙ rw n more
in_fits Picture place sure xs fits none more = let n : 0 + length sure ≡ length sure = omega arith in limit_more place 0 sure xs fits ∙ rw n more

pub fits_more : (h : Held) (xs : List ℕ) → Fits h → limit_of h xs ≡ None → Fits (behind h xs)
fits_more h xs f more = record { limit = in_fits h.phase h.place h.sure xs f.limit f.none more; none = λ e. by_phase h.phase h.sure e f.none }
  where
    by_phase : (phase : Phase) (sure : List ℕ) → phase ≡ Before → (phase ≡ Before → sure ≡ []) → sure_after phase sure xs ≡ []
    by_phase Before sure e none = none refl
    by_phase Headers sure e none = absurd cc
    by_phase Picture sure e none = absurd cc

-- a prefix and the byte that shows that it is none, out of three zeros
pub settling : (ahead b : ℕ) → ahead ≤ 2 → take (ahead + 1) (set (0 ∷ 0 ∷ 0 ∷ []) ahead b) ≡ prefix ahead ++ b ∷ []
settling zero b le = refl
settling (suc zero) b le = refl
settling (suc (suc zero)) b le = refl
settling (suc (suc (suc n))) b le = absurd (omega arith)
