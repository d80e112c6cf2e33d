-- What each byte does to the piece at hand.
use Rattle.std.proofs.Common.{◌≡◌, ℕ, zero, suc, ◌+◌, ◌<◌, ◌≤◌, false, List, [], ◌∷◌, ◌++◌, length, None, Result, Ok, Err, OnOk, IfErr, refl, sym, ap, subst, ◌∙◌, append_assoc, arith}
use Rattle.std.specs.Prelude.{nat_eq}
use Rattle.std.proofs.lemmas.List.{length-append, append-nil}
use Rattle.m2v_model.specs.declared.phase.Phase.{Phase}
use Rattle.m2v_model.specs.declared.phase.Phase.TheVariants.{Before, Headers, Picture}
use Rattle.m2v_model.specs.Pieces.{limit, phase_after, grouped, piece_of}
use Rattle.m2v_dec_piece.specs.declared.answer.DecodeError.{DecodeError}
use Rattle.m2v_dec_piece.specs.Following.{following_in}
use Rattle.m2v_dec_piece.specs.Cutting.{Held, Fits, prefix, open_pieces, open_start, pieces_behind, start_behind, behind, limit_of, place_after, sure_after, limit_in, LimitErr, PieceStops, Took, StopsAt, GoesOn, phase_behind, code_of, Ends, FirstBegun, Finished, is_begun}
use Rattle.m2v_dec_piece.proofs.PieceLaws.{third_zero, third_zero_start, settled, settled_start, passes_unit, passes_start, goes_on, goes_on_behind, no_end, behind_is_open, behind_not_before, Begins, begins_behind, ends_text, begins_first, starts_first, ends_at, ends_start}
use Rattle.m2v_dec_piece.proofs.FollowingLaws.{follows_zero, follows_other, follows_unit, follows_first, follows_end, follows_none}
use Rattle.m2v_dec_piece.proofs.LimitLaws.{fits_more, stopped, stops_piece, stops_before, started, same_before, grown, grown_picture, picture_begin}

-- how many bytes were taken in all
after_more : (phase : Phase) (place : ℕ) (sure xs : List ℕ) → place_after phase place xs + length (sure_after phase sure xs) ≡ place + length sure + length xs
after_more Before place sure xs = omega arith
after_more Headers place sure xs = omega (arith, length-append sure xs)
after_more Picture place sure xs = omega (arith, length-append sure xs)

after_onward : (phase : Phase) (place : ℕ) (xs : List ℕ) → place ≤ place_after phase place xs
after_onward Before place xs = omega arith
after_onward Headers place xs = omega arith
after_onward Picture place xs = omega arith

pub took_zero : (h new : Held) → h.ahead ≡ 2 → Fits h → new ≡ behind h (0 ∷ []) → limit_of h (0 ∷ []) ≡ None → Took h 0 new
took_zero h new two fits is none =
    subst (λ (x : Held). Took h 0 x) (sym is)
    (record {
      pieces = λ text. rw two (third_zero h.phase h.sure text);
      start = λ text. rw two (third_zero_start h.phase h.place text);
      follows = λ text. rw two (follows_zero (is_begun h.phase) text);
      more = omega (arith, after_more h.phase h.place h.sure (0 ∷ []));
      onward = after_onward h.phase h.place (0 ∷ []);
      fits = fits_more h (0 ∷ []) fits none;
    })

pub stops_zero : (h : Held) (e : DecodeError) → h.ahead ≡ 2 → Fits h → LimitErr (limit_of h (0 ∷ [])) e → StopsAt h 0 e
stops_zero h e two fits some text =
    rw (two, third_zero h.phase h.sure text, third_zero_start h.phase h.place text) (stopped h 0 [] (0 ∷ 0 ∷ text) e fits.limit some)

pub length_prefix : (n : ℕ) → n ≤ 3 → length (prefix n) ≡ n
length_prefix zero le = refl
length_prefix (suc zero) le = refl
length_prefix (suc (suc zero)) le = refl
length_prefix (suc (suc (suc zero))) le = refl
length_prefix (suc (suc (suc (suc n)))) le = absurd (omega arith)

pub took_other : (h new : Held) (b : ℕ) → h.ahead ≤ 2 → nat_eq b 0 ≡ false → (h.ahead ≡ 2 → nat_eq b 1 ≡ false) → Fits h
    → new ≡ record (behind h (prefix h.ahead ++ b ∷ [])) { ahead = 0 } → limit_of h (prefix h.ahead ++ b ∷ []) ≡ None → Took h b new
took_other h new b le some one fits is none =
    let f = fits_more h (prefix h.ahead ++ b ∷ []) fits none in
    subst (λ (x : Held). Took h b x) (sym is)
    (record {
      pieces = λ text. settled h.phase h.sure h.ahead b text le some one;
      start = λ text. settled_start h.phase h.place h.ahead b text le some one;
      follows = λ text. follows_other (is_begun h.phase) h.ahead b text le some one;
      more = omega (arith, after_more h.phase h.place h.sure (prefix h.ahead ++ b ∷ []), length-append (prefix h.ahead) (b ∷ []), length_prefix h.ahead (omega (arith, le)));
      onward = after_onward h.phase h.place (prefix h.ahead ++ b ∷ []);
      fits = record { limit = f.limit; none = f.none };
    })

-- some byte stands first
first_of : (n b : ℕ) → n ≤ 2 → (x : ℕ) × (xs : List ℕ) × (prefix n ++ b ∷ [] ≡ x ∷ xs)
first_of zero b le = (b, [], refl)
first_of (suc zero) b le = (0, b ∷ [], refl)
first_of (suc (suc zero)) b le = (0, 0 ∷ b ∷ [], refl)
first_of (suc (suc (suc n))) b le = absurd (omega arith)

pub stops_other : (h : Held) (b : ℕ) (e : DecodeError) → h.ahead ≤ 2 → nat_eq b 0 ≡ false → (h.ahead ≡ 2 → nat_eq b 1 ≡ false) → Fits h
    → LimitErr (limit_of h (prefix h.ahead ++ b ∷ [])) e → StopsAt h b e
stops_other h b e le some one fits passed text =
    let f = first_of h.ahead b le in
    let at : LimitErr (limit_of h (f.0 ∷ f.1)) e = subst (λ (x : List ℕ). LimitErr (limit_of h x) e) f.2 passed in
    let stop = stopped h f.0 f.1 text e fits.limit at in
    rw (settled h.phase h.sure h.ahead b text le some one, settled_start h.phase h.place h.ahead b text le some one)
    (subst (λ (x : List ℕ). PieceStops (open_start h.phase (place_after h.phase h.place x) text) (open_pieces h.phase (sure_after h.phase h.sure x) text) e) (sym f.2) stop)

pub took_longer : (h new : Held) (b : ℕ) → prefix (h.ahead + 1) ≡ prefix h.ahead ++ b ∷ [] → Fits h → new ≡ record h { ahead = h.ahead + 1 } → Took h b new
took_longer h new b next fits is =
    subst (λ (x : Held). Took h b x) (sym is)
    (record {
      pieces = λ text. ap (open_pieces h.phase h.sure) (sym (ap (λ (x : List ℕ). x ++ text) next ∙ append_assoc (prefix h.ahead) (b ∷ []) text));
      start = λ text. ap (open_start h.phase h.place) (sym (ap (λ (x : List ℕ). x ++ text) next ∙ append_assoc (prefix h.ahead) (b ∷ []) text));
      follows = λ text. ap (following_in (is_begun h.phase)) (sym (ap (λ (x : List ℕ). x ++ text) next ∙ append_assoc (prefix h.ahead) (b ∷ []) text));
      more = omega arith;
      onward = omega arith;
      fits = record { limit = fits.limit; none = fits.none };
    })

-- what two clauses give where a call succeeds, and one where it fails
pub both_ok : {T E : Type 0} {A B C : Type 0} (r : Result T E) → OnOk r A → OnOk r B → (A → B → C) → OnOk r C
both_ok (Ok v) a b f = f a b
both_ok (Err e) a b f = tt

pub each_err : {T E : Type 0} {P Q : E → Type 0} (r : Result T E) → IfErr r P → ((e : E) → P e → Q e) → IfErr r Q
each_err (Ok v) p f = tt
each_err (Err e) p f = f e p

-- ---- start codes

unit_pieces : (phase : Phase) (sure : List ℕ) (v : ℕ) (t : List ℕ) → GoesOn phase v → open_pieces phase sure (0 ∷ 0 ∷ 1 ∷ v ∷ t) ≡ open_pieces (phase_behind phase v) (sure_after phase sure (code_of v)) t
unit_pieces Before sure v t goes = passes_unit sure v t goes
unit_pieces Headers sure v t goes = goes_on sure v t goes
unit_pieces Picture sure v t goes = goes_on_behind sure v t goes (no_end v goes)

unit_start : (phase : Phase) (place v : ℕ) (t : List ℕ) → GoesOn phase v → open_start phase place (0 ∷ 0 ∷ 1 ∷ v ∷ t) ≡ open_start (phase_behind phase v) (place_after phase place (code_of v)) t
unfolding open_start
unit_start Before place v t goes = passes_start place v t goes
unit_start Headers place v t goes = sym (behind_is_open v place t)
unit_start Picture place v t goes = refl

unit_none : (phase : Phase) (sure : List ℕ) (v : ℕ) → (phase ≡ Before → sure_after phase sure (code_of v) ≡ []) → phase_behind phase v ≡ Before → sure_after phase sure (code_of v) ≡ []
unit_none Before sure v none e = none refl
unit_none Headers sure v none e = absurd (behind_not_before v e)
unit_none Picture sure v none e = absurd cc

pub took_unit : (h new : Held) (v : ℕ) → h.ahead ≡ 3 → GoesOn h.phase v → Fits h → new ≡ record { phase = phase_behind h.phase v; place = place_after h.phase h.place (code_of v); sure = sure_after h.phase h.sure (code_of v); ahead = 0 }
    → limit_of h (code_of v) ≡ None → Took h v new
took_unit h new v three goes fits is none =
    let f = fits_more h (code_of v) fits none in
    subst (λ (x : Held). Took h v x) (sym is)
    (record {
      pieces = λ text. rw three (unit_pieces h.phase h.sure v text goes);
      start = λ text. rw three (unit_start h.phase h.place v text goes);
      follows = λ text. rw three (follows_unit h.phase v text goes);
      more = omega (arith, after_more h.phase h.place h.sure (code_of v));
      onward = after_onward h.phase h.place (code_of v);
      fits = record { limit = f.limit; none = unit_none h.phase h.sure v f.none };
    })

begins_after : (sure : List ℕ) (v : ℕ) (t : List ℕ) → Begins (sure ++ code_of v) (open_pieces (phase_after Headers v) (sure ++ code_of v) t)
begins_after [] v t = begins_behind v 0 (0 ∷ 1 ∷ v ∷ []) t
begins_after (x ∷ sure) v t = begins_behind v x (sure ++ code_of v) t

stops_code : (phase : Phase) (place : ℕ) (sure : List ℕ) (v : ℕ) (t : List ℕ) (e : DecodeError) → limit place 0 sure ≡ None → LimitErr (limit_in phase place sure (code_of v)) e
    → PieceStops (open_start (phase_behind phase v) (place_after phase place (code_of v)) t) (open_pieces (phase_behind phase v) (sure_after phase sure (code_of v)) t) e
unfolding open_start
stops_code Before place sure v t e fits some = stops_before place _ (code_of v) _ e (started place (code_of v) t) (same_before place sure (code_of v) e some)
stops_code Headers place sure v t e fits some = rw (behind_is_open v place t) (stops_piece place (sure ++ code_of v) _ e (begins_after sure v t) (grown place sure (code_of v) e fits some))
stops_code Picture place sure v t e fits some = stops_piece place (sure ++ code_of v) _ e (picture_begin sure 0 (0 ∷ 1 ∷ v ∷ []) t) (grown_picture place sure (code_of v) e fits some)

pub stops_unit : (h : Held) (v : ℕ) (e : DecodeError) → h.ahead ≡ 3 → GoesOn h.phase v → Fits h → LimitErr (limit_of h (code_of v)) e → StopsAt h v e
stops_unit h v e three goes fits passed text =
    rw (three, unit_pieces h.phase h.sure v text goes, unit_start h.phase h.place v text goes) (stops_code h.phase h.place h.sure v text e fits.limit passed)

-- the end code
pub ends_here : (h new : Held) → h.ahead ≡ 3 → h.phase ≡ Headers → Fits h → new ≡ record (behind h (code_of 0xB7)) { ahead = 0 } → limit_of h (code_of 0xB7) ≡ None → Ends h new
ends_here h new three phase fits is none =
    let f = fits_more h (code_of 0xB7) fits none in
    subst (λ (x : Held). Ends h x) (sym is)
    (record {
      pieces = λ text. rw (three, phase) (ends_text h.sure text);
      follows = λ text. rw (three, phase) (follows_end text);
      ahead = refl;
      place = rw phase refl;
      more = omega (arith, three, after_more h.phase h.place h.sure (code_of 0xB7));
      some = rw phase (omega (arith, length-append h.sure (code_of 0xB7)));
      fits = record { limit = f.limit; none = f.none };
    })

end_pieces : (sure t : List ℕ) → Begins (sure ++ code_of 0xB7) (open_pieces Headers sure (0 ∷ 0 ∷ 1 ∷ 0xB7 ∷ t))
end_pieces sure t = record { more = []; others = []; are = ends_text sure t ∙ ap (λ (x : List ℕ). x ∷ []) (sym (append-nil (sure ++ code_of 0xB7))) }

pub stops_end : (h : Held) (e : DecodeError) → h.ahead ≡ 3 → h.phase ≡ Headers → Fits h → LimitErr (limit_of h (code_of 0xB7)) e → StopsAt h 0xB7 e
unfolding open_start
stops_end h e three phase fits passed text =
    let at : LimitErr (limit_in Headers h.place h.sure (code_of 0xB7)) e = rw phase at passed in
    rw (three, phase) (stops_piece h.place (h.sure ++ code_of 0xB7) _ e (end_pieces h.sure text) (grown h.place h.sure (code_of 0xB7) e fits.limit at))

-- the first sequence header
pub begun_here : (h new : Held) → h.ahead ≡ 3 → h.phase ≡ Before → Fits h → new ≡ record h { phase = Headers } → FirstBegun h new
unfolding open_start
begun_here h new three phase fits is =
    subst (λ (x : Held). FirstBegun h x) (sym is)
    (record {
      pieces = λ text. rw (three, phase, fits.none phase) (begins_first [] text);
      start = λ text. rw (three, phase) (starts_first h.place text);
      follows = λ text. rw (three, phase) (follows_first text);
      is = refl;
      fits = record { limit = fits.limit; none = λ e. absurd cc };
    })

same_end : (phase : Phase) (sure xs : List ℕ) → grouped phase (sure ++ xs) [] ≡ grouped phase (sure_after phase sure xs) []
unfolding grouped
same_end Before sure xs = refl
same_end Headers sure xs = refl
same_end Picture sure xs = refl

-- the end of the input
pub finished_here : (h new : Held) → h.ahead ≤ 3 → Fits h → new ≡ record (behind h (prefix h.ahead)) { ahead = 0 } → limit_of h (prefix h.ahead) ≡ None → Finished h new
finished_here h new le fits is none =
    let f = fits_more h (prefix h.ahead) fits none in
    subst (λ (x : Held). Finished h x) (sym is)
    (record {
      pieces = ends_at h.phase h.sure h.ahead le ∙ same_end h.phase h.sure (prefix h.ahead);
      start = ends_start h.phase h.place h.ahead le;
      follows = follows_none (is_begun h.phase) h.ahead le;
      ahead = refl;
      phase = refl;
      taken = omega (arith, after_more h.phase h.place h.sure (prefix h.ahead), length_prefix h.ahead le);
      onward = after_onward h.phase h.place (prefix h.ahead);
      fits = record { limit = f.limit; none = f.none };
    })

piece_begins : (xs : List ℕ) → 0 < length xs → Begins xs (piece_of xs)
piece_begins [] lt = absurd (omega arith)
piece_begins (x ∷ xs) lt = record { more = []; others = []; are = ap (λ (y : List ℕ). (x ∷ y) ∷ []) (sym (append-nil xs)) }

stops_text : (phase : Phase) (place : ℕ) (sure xs : List ℕ) (e : DecodeError) → 0 < length xs → limit place 0 sure ≡ None → LimitErr (limit_in phase place sure xs) e
    → PieceStops (place_after phase place xs) (grouped phase (sure ++ xs) []) e
unfolding grouped
stops_text Before place sure xs e some fits passed = stops_before place _ xs _ e (omega arith) (same_before place sure xs e passed)
stops_text Headers place sure xs e some fits passed = stops_piece place (sure ++ xs) _ e (piece_begins (sure ++ xs) (omega (arith, length-append sure xs))) (grown place sure xs e fits passed)
stops_text Picture place sure xs e some fits passed = stops_piece place (sure ++ xs) _ e (piece_begins (sure ++ xs) (omega (arith, length-append sure xs))) (grown_picture place sure xs e fits passed)

prefix_some : (n : ℕ) → 0 < n → n ≤ 3 → 0 < length (prefix n)
prefix_some zero lt le = absurd (omega arith)
prefix_some (suc zero) lt le = omega arith
prefix_some (suc (suc zero)) lt le = omega arith
prefix_some (suc (suc (suc zero))) lt le = omega arith
prefix_some (suc (suc (suc (suc n)))) lt le = absurd (omega arith)

-- at the end of the input what could begin a start code passes a limit
pub stops_finish : (h : Held) (e : DecodeError) → h.ahead ≤ 3 → 0 < h.ahead → Fits h → LimitErr (limit_of h (prefix h.ahead)) e → PieceStops (start_behind h []) (pieces_behind h []) e
stops_finish h e le lt fits passed =
    rw (ends_start h.phase h.place h.ahead le, ends_at h.phase h.sure h.ahead le)
    (stops_text h.phase h.place h.sure (prefix h.ahead) e (prefix_some h.ahead lt le) fits.limit passed)

-- ---- the hand's fields

pub before_only : (phase : Phase) (v : ℕ) → phase_behind phase v ≡ Before → phase ≡ Before
before_only Before v e = refl
before_only Headers v e = absurd (behind_not_before v e)
before_only Picture v e = absurd cc

full_after : (phase : Phase) (v : ℕ) (sure : List ℕ) → phase_behind phase v ≡ Picture → 1 ≤ length (sure_after phase sure (code_of v))
full_after Before v sure e = absurd cc
full_after Headers v sure e = omega (arith, length-append sure (code_of v))
full_after Picture v sure e = omega (arith, length-append sure (code_of v))

-- behind a picture's start code some bytes are held
pub unit_full : (h now : Held) (phase : Phase) (v : ℕ) → now ≡ record (behind h (code_of v)) { ahead = 0 } → phase ≡ phase_behind now.phase v → phase ≡ Picture → 1 ≤ length now.sure
unit_full h now phase v is by e =
    let at : phase_behind h.phase v ≡ Picture = sym (by ∙ ap (λ (x : Held). phase_behind x.phase v) is) ∙ e in
    subst (λ (x : Held). 1 ≤ length x.sure) (sym is) (full_after h.phase v h.sure at)

pub unit_is : (h now new : Held) (phase : Phase) (v : ℕ) → now ≡ record (behind h (code_of v)) { ahead = 0 } → phase ≡ phase_behind now.phase v → new ≡ record now { phase = phase }
    → new ≡ record { phase = phase_behind h.phase v; place = place_after h.phase h.place (code_of v); sure = sure_after h.phase h.sure (code_of v); ahead = 0 }
unit_is h now new phase v is by is_then =
    is_then ∙ ap (λ (x : Held). record x { phase = phase }) is
    ∙ ap (λ (q : Phase). record { phase = q; place = place_after h.phase h.place (code_of v); sure = sure_after h.phase h.sure (code_of v); ahead = 0 }) (by ∙ ap (λ (x : Held). phase_behind x.phase v) is)

place_none : (phase : Phase) (place : ℕ) → place_after phase place [] ≡ place
place_none Before place = omega arith
place_none Headers place = refl
place_none Picture place = refl

pub finished_none : (h : Held) → h.ahead ≡ 0 → Fits h → Finished h h
unfolding open_pieces open_start
finished_none h none fits = record {
  pieces = ap (λ (n : ℕ). open_pieces h.phase h.sure (prefix n ++ [])) none ∙ ends_at h.phase h.sure 0 (omega arith) ∙ ap (λ (x : List ℕ). grouped h.phase x []) (append-nil h.sure);
  start = ap (λ (n : ℕ). open_start h.phase h.place (prefix n ++ [])) none ∙ ends_start h.phase h.place 0 (omega arith) ∙ place_none h.phase h.place;
  follows = ap (λ (n : ℕ). following_in (is_begun h.phase) (prefix n ++ [])) none ∙ follows_none (is_begun h.phase) 0 (omega arith);
  ahead = none;
  phase = refl;
  taken = refl;
  onward = omega arith;
  fits = fits;
}

pub finished_by : (h now new : Held) (n : ℕ) → h.ahead ≡ n → n ≤ 3 → Fits h → now ≡ behind h (prefix n) → new ≡ record now { ahead = 0 } → limit_of h (prefix n) ≡ None → Finished h new
finished_by h now new n is le fits behind_is new_is none =
    let at : now ≡ behind h (prefix h.ahead) = behind_is ∙ ap (λ (k : ℕ). behind h (prefix k)) (sym is) in
    finished_here h new (omega (arith, is, le)) fits (new_is ∙ ap (λ (x : Held). record x { ahead = 0 }) at) (ap (λ (k : ℕ). limit_of h (prefix k)) is ∙ none)

pub stops_by : (h : Held) (n : ℕ) (e : DecodeError) → h.ahead ≡ n → n ≤ 3 → 0 < n → Fits h → LimitErr (limit_of h (prefix n)) e → PieceStops (start_behind h []) (pieces_behind h []) e
stops_by h n e is le lt fits passed = stops_finish h e (omega (arith, is, le)) (omega (arith, is, lt)) fits (subst (λ (k : ℕ). LimitErr (limit_of h (prefix k)) e) (sym is) passed)
