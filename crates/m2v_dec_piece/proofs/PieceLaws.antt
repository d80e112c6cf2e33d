-- How the pieces of a text follow from it byte by byte.
use Rattle.std.proofs.Common.{◌≡◌, ℕ, zero, suc, ◌+◌, ◌≤◌, Bool, true, false, List, [], ◌∷◌, ◌++◌, length, take, refl, sym, ap, subst, ◌∙◌, append_assoc, arith}
use Rattle.std.specs.Prelude.{nat_eq, ◌||◌, slice_index, if◌then◌else◌}
use Rattle.std.proofs.lemmas.Bool.{cond-false}
use Rattle.std.proofs.lemmas.List.{append-nil, length-append}
use Rattle.m2v_model.specs.declared.phase.Phase.{Phase}
use Rattle.m2v_model.specs.declared.phase.Phase.TheVariants.{Before, Headers, Picture}
use Rattle.m2v_model.specs.Units.{begins_code, cut}
use Rattle.m2v_model.specs.Pieces.{grouped, phase_after, begins_piece, is_end, before_sequence}
use Rattle.m2v_dec_piece.specs.Cutting.{open_pieces, open_start, sure_after, place_after, prefix}

-- a byte at which no start code begins
pub cut_plain : (b : ℕ) (t : List ℕ) → begins_code (b ∷ t) ≡ false → cut 0 (b ∷ t) ≡ (b ∷ (cut 0 t).0, (cut 0 t).1)
unfolding cut
cut_plain b t off = cond-false (begins_code (b ∷ t)) _ _ off

pub sure_byte : (phase : Phase) (sure : List ℕ) (b : ℕ) (t : List ℕ) → begins_code (b ∷ t) ≡ false → open_pieces phase sure (b ∷ t) ≡ open_pieces phase (sure ++ b ∷ []) t
unfolding open_pieces
sure_byte phase sure b t off =
    ap (λ (x : List ℕ × List (List ℕ)). grouped phase (sure ++ x.0) x.1) (cut_plain b t off)
    ∙ ap (λ (x : List ℕ). grouped phase x (cut 0 t).1) (sym (append_assoc sure (b ∷ []) (cut 0 t).0))

pub start_byte : (phase : Phase) (place b : ℕ) (t : List ℕ) → begins_code (b ∷ t) ≡ false → open_start phase place (b ∷ t) ≡ open_start phase (place_after phase place (b ∷ [])) t
unfolding open_start
start_byte Before place b t off = omega (arith, ap (λ (x : List ℕ × List (List ℕ)). place + length (x.0 ++ before_sequence x.1)) (cut_plain b t off))
start_byte Headers place b t off = refl
start_byte Picture place b t off = refl

-- before the first piece what was passed over doesn't matter
pub before_any : (xs ys : List ℕ) (us : List (List ℕ)) → grouped Before xs us ≡ grouped Before ys us
unfolding grouped
before_any xs ys [] = refl
before_any xs ys (u ∷ us) = refl

pub before_same : (xs ys t : List ℕ) → open_pieces Before xs t ≡ open_pieces Before ys t
unfolding open_pieces
before_same xs ys t = before_any (xs ++ (cut 0 t).0) (ys ++ (cut 0 t).0) (cut 0 t).1

-- a start code with its value
abbrev code : ℕ → List ℕ
code v = 0 ∷ 0 ∷ 1 ∷ v ∷ []

pub cut_code : (v : ℕ) (t : List ℕ) → cut 0 (0 ∷ 0 ∷ 1 ∷ v ∷ t) ≡ ([], (0 ∷ 0 ∷ 1 ∷ v ∷ (cut 0 t).0) ∷ (cut 0 t).1)
unfolding cut
cut_code v t = refl

at_code : (phase : Phase) (sure : List ℕ) (v : ℕ) (t : List ℕ) → open_pieces phase sure (0 ∷ 0 ∷ 1 ∷ v ∷ t) ≡ grouped phase sure ((0 ∷ 0 ∷ 1 ∷ v ∷ (cut 0 t).0) ∷ (cut 0 t).1)
unfolding open_pieces
at_code phase sure v t =
    ap (λ (x : List ℕ × List (List ℕ)). grouped phase (sure ++ x.0) x.1) (cut_code v t)
    ∙ ap (λ (x : List ℕ). grouped phase x ((0 ∷ 0 ∷ 1 ∷ v ∷ (cut 0 t).0) ∷ (cut 0 t).1)) (append-nil sure)

-- the first sequence header
pub begins_first : (sure t : List ℕ) → open_pieces Before sure (0 ∷ 0 ∷ 1 ∷ 0xB3 ∷ t) ≡ open_pieces Headers [] (0 ∷ 0 ∷ 1 ∷ 0xB3 ∷ t)
unfolding grouped open_pieces cut is_end phase_after
begins_first sure t = at_code Before sure 0xB3 t ∙ sym (at_code Headers [] 0xB3 t)

pub starts_first : (place : ℕ) (t : List ℕ) → open_start Before place (0 ∷ 0 ∷ 1 ∷ 0xB3 ∷ t) ≡ place
unfolding open_start before_sequence
starts_first place t = ap (λ (x : List ℕ × List (List ℕ)). place + length (x.0 ++ before_sequence x.1)) (cut_code 0xB3 t) ∙ omega arith

-- another unit before it is passed over
pub passes_unit : (sure : List ℕ) (v : ℕ) (t : List ℕ) → nat_eq v 0xB3 ≡ false → open_pieces Before sure (0 ∷ 0 ∷ 1 ∷ v ∷ t) ≡ open_pieces Before sure t
unfolding grouped open_pieces
passes_unit sure v t off = at_code Before sure v t ∙ rw off (before_any [] (sure ++ (cut 0 t).0) (cut 0 t).1)

pub passes_start : (place v : ℕ) (t : List ℕ) → nat_eq v 0xB3 ≡ false → open_start Before place (0 ∷ 0 ∷ 1 ∷ v ∷ t) ≡ open_start Before (place + 4) t
unfolding open_start before_sequence
passes_start place v t off =
    ap (λ (x : List ℕ × List (List ℕ)). place + length (x.0 ++ before_sequence x.1)) (cut_code v t)
    ∙ rw off (omega (arith, length-append (cut 0 t).0 (before_sequence (cut 0 t).1)))

-- behind a picture a unit may begin the next piece
pub ends_piece : (sure : List ℕ) (v : ℕ) (t : List ℕ) → begins_piece v ≡ true → open_pieces Picture sure (0 ∷ 0 ∷ 1 ∷ v ∷ t) ≡ sure ∷ open_pieces Headers [] (0 ∷ 0 ∷ 1 ∷ v ∷ t)
unfolding grouped
ends_piece sure v t on = at_code Picture sure v t ∙ by_end (is_end v) refl ∙ ap (λ (ps : List (List ℕ)). sure ∷ ps) (sym (at_code Headers [] v t))
  where
    by_end : (b : Bool) → is_end v ≡ b → grouped Picture sure ((0 ∷ 0 ∷ 1 ∷ v ∷ (cut 0 t).0) ∷ (cut 0 t).1) ≡ sure ∷ grouped Headers [] ((0 ∷ 0 ∷ 1 ∷ v ∷ (cut 0 t).0) ∷ (cut 0 t).1)
    by_end true e = rw e refl
    by_end false e = rw (e, on) refl

-- the end code
pub ends_text : (sure t : List ℕ) → open_pieces Headers sure (0 ∷ 0 ∷ 1 ∷ 0xB7 ∷ t) ≡ (sure ++ code 0xB7) ∷ []
unfolding grouped is_end
ends_text sure t = at_code Headers sure 0xB7 t

-- any other unit goes on with the piece
pub goes_on : (sure : List ℕ) (v : ℕ) (t : List ℕ) → is_end v ≡ false → open_pieces Headers sure (0 ∷ 0 ∷ 1 ∷ v ∷ t) ≡ open_pieces (phase_after Headers v) (sure ++ code v) t
unfolding grouped open_pieces
goes_on sure v t off = at_code Headers sure v t ∙ rw off (ap (λ (x : List ℕ). grouped (phase_after Headers v) x (cut 0 t).1) (sym (append_assoc sure (code v) (cut 0 t).0)))

pub goes_on_behind : (sure : List ℕ) (v : ℕ) (t : List ℕ) → begins_piece v ≡ false → is_end v ≡ false → open_pieces Picture sure (0 ∷ 0 ∷ 1 ∷ v ∷ t) ≡ open_pieces Picture (sure ++ code v) t
unfolding grouped open_pieces
goes_on_behind sure v t off end = at_code Picture sure v t ∙ rw (end, off) (ap (λ (x : List ℕ). grouped Picture x (cut 0 t).1) (sym (append_assoc sure (code v) (cut 0 t).0)))

-- ---- bytes that are no start code

-- a byte more is sure
pub sure_step : (phase : Phase) (sure : List ℕ) (b : ℕ) (t : List ℕ) → begins_code (b ∷ t) ≡ false → open_pieces phase sure (b ∷ t) ≡ open_pieces phase (sure_after phase sure (b ∷ [])) t
sure_step Before sure b t off = sure_byte Before sure b t off ∙ before_same (sure ++ b ∷ []) sure t
sure_step Headers sure b t off = sure_byte Headers sure b t off
sure_step Picture sure b t off = sure_byte Picture sure b t off

sure_two : (phase : Phase) (sure : List ℕ) (a b : ℕ) → sure_after phase (sure_after phase sure (a ∷ [])) (b ∷ []) ≡ sure_after phase sure (a ∷ b ∷ [])
sure_two Before sure a b = refl
sure_two Headers sure a b = append_assoc sure (a ∷ []) (b ∷ [])
sure_two Picture sure a b = append_assoc sure (a ∷ []) (b ∷ [])

place_two : (phase : Phase) (place a b : ℕ) → place_after phase (place_after phase place (a ∷ [])) (b ∷ []) ≡ place_after phase place (a ∷ b ∷ [])
place_two Before place a b = omega arith
place_two Headers place a b = refl
place_two Picture place a b = refl

sure_three : (phase : Phase) (sure : List ℕ) (a b c : ℕ) → sure_after phase (sure_after phase sure (a ∷ b ∷ [])) (c ∷ []) ≡ sure_after phase sure (a ∷ b ∷ c ∷ [])
sure_three Before sure a b c = refl
sure_three Headers sure a b c = append_assoc sure (a ∷ b ∷ []) (c ∷ [])
sure_three Picture sure a b c = append_assoc sure (a ∷ b ∷ []) (c ∷ [])

place_three : (phase : Phase) (place a b c : ℕ) → place_after phase (place_after phase place (a ∷ b ∷ [])) (c ∷ []) ≡ place_after phase place (a ∷ b ∷ c ∷ [])
place_three Before place a b c = omega arith
place_three Headers place a b c = refl
place_three Picture place a b c = refl

pub no_code_0 : (b : ℕ) (t : List ℕ) → nat_eq b 0 ≡ false → begins_code (b ∷ t) ≡ false
no_code_0 b [] off = refl
no_code_0 b (x ∷ []) off = refl
no_code_0 b (x ∷ y ∷ []) off = refl
no_code_0 b (x ∷ y ∷ z ∷ t) off = rw off refl

pub no_code_1 : (b : ℕ) (t : List ℕ) → nat_eq b 0 ≡ false → begins_code (0 ∷ b ∷ t) ≡ false
no_code_1 b [] off = refl
no_code_1 b (x ∷ []) off = refl
no_code_1 b (x ∷ y ∷ t) off = rw off refl

pub no_code_2 : (b : ℕ) (t : List ℕ) → nat_eq b 1 ≡ false → begins_code (0 ∷ 0 ∷ b ∷ t) ≡ false
no_code_2 b [] off = refl
no_code_2 b (x ∷ t) off = rw off refl

-- a third zero
pub third_zero : (phase : Phase) (sure t : List ℕ) → open_pieces phase sure (0 ∷ 0 ∷ 0 ∷ t) ≡ open_pieces phase (sure_after phase sure (0 ∷ [])) (0 ∷ 0 ∷ t)
third_zero phase sure t = sure_step phase sure 0 (0 ∷ 0 ∷ t) (no_code_2 0 t refl)

pub third_zero_start : (phase : Phase) (place : ℕ) (t : List ℕ) → open_start phase place (0 ∷ 0 ∷ 0 ∷ t) ≡ open_start phase (place_after phase place (0 ∷ [])) (0 ∷ 0 ∷ t)
third_zero_start phase place t = start_byte phase place 0 (0 ∷ 0 ∷ t) (no_code_2 0 t refl)

-- a byte that ends a prefix which is none
pub settled : (phase : Phase) (sure : List ℕ) (ahead b : ℕ) (t : List ℕ) → ahead ≤ 2 → nat_eq b 0 ≡ false → (ahead ≡ 2 → nat_eq b 1 ≡ false)
    → open_pieces phase sure (prefix ahead ++ (b ∷ t)) ≡ open_pieces phase (sure_after phase sure (prefix ahead ++ b ∷ [])) t
settled phase sure zero b t le some one = sure_step phase sure b t (no_code_0 b t some)
settled phase sure (suc zero) b t le some one =
    sure_step phase sure 0 (b ∷ t) (no_code_1 b t some)
    ∙ sure_step phase (sure_after phase sure (0 ∷ [])) b t (no_code_0 b t some)
    ∙ ap (λ (x : List ℕ). open_pieces phase x t) (sure_two phase sure 0 b)
settled phase sure (suc (suc zero)) b t le some one =
    sure_step phase sure 0 (0 ∷ b ∷ t) (no_code_2 b t (one refl))
    ∙ sure_step phase (sure_after phase sure (0 ∷ [])) 0 (b ∷ t) (no_code_1 b t some)
    ∙ ap (λ (x : List ℕ). open_pieces phase x (b ∷ t)) (sure_two phase sure 0 0)
    ∙ sure_step phase (sure_after phase sure (0 ∷ 0 ∷ [])) b t (no_code_0 b t some)
    ∙ ap (λ (x : List ℕ). open_pieces phase x t) (sure_three phase sure 0 0 b)
settled phase sure (suc (suc (suc n))) b t le some one = absurd (omega arith)

pub settled_start : (phase : Phase) (place ahead b : ℕ) (t : List ℕ) → ahead ≤ 2 → nat_eq b 0 ≡ false → (ahead ≡ 2 → nat_eq b 1 ≡ false)
    → open_start phase place (prefix ahead ++ (b ∷ t)) ≡ open_start phase (place_after phase place (prefix ahead ++ b ∷ [])) t
settled_start phase place zero b t le some one = start_byte phase place b t (no_code_0 b t some)
settled_start phase place (suc zero) b t le some one =
    start_byte phase place 0 (b ∷ t) (no_code_1 b t some)
    ∙ start_byte phase (place_after phase place (0 ∷ [])) b t (no_code_0 b t some)
    ∙ ap (λ (x : ℕ). open_start phase x t) (place_two phase place 0 b)
settled_start phase place (suc (suc zero)) b t le some one =
    start_byte phase place 0 (0 ∷ b ∷ t) (no_code_2 b t (one refl))
    ∙ start_byte phase (place_after phase place (0 ∷ [])) 0 (b ∷ t) (no_code_1 b t some)
    ∙ ap (λ (x : ℕ). open_start phase x (b ∷ t)) (place_two phase place 0 0)
    ∙ start_byte phase (place_after phase place (0 ∷ 0 ∷ [])) b t (no_code_0 b t some)
    ∙ ap (λ (x : ℕ). open_start phase x t) (place_three phase place 0 0 b)
settled_start phase place (suc (suc (suc n))) b t le some one = absurd (omega arith)

-- ---- the first piece begins with what is sure

pub record Begins (bytes : List ℕ) (pieces : List (List ℕ)) : Type 0 where
  pub more : List ℕ
  pub others : List (List ℕ)
  pub are : pieces ≡ (bytes ++ more) ∷ others

-- the same piece, of which fewer bytes are told
shorter : (bytes u : List ℕ) (pieces : List (List ℕ)) → Begins (bytes ++ u) pieces → Begins bytes pieces
shorter bytes u pieces b = record { more = u ++ b.more; others = b.others; are = b.are ∙ ap (λ (x : List ℕ). x ∷ b.others) (append_assoc bytes u b.more) }

-- behind a unit of value 00 a picture's phase, else the one before
phase_by : Bool → Phase
phase_by true = Picture
phase_by false = Headers

by_value : (v : ℕ) → phase_after Headers v ≡ phase_by (nat_eq v 0)
unfolding phase_after phase_by
by_value v = by_cases (nat_eq v 0)
  where
    by_cases : (b : Bool) → (if b then Picture else Headers) ≡ phase_by b
    by_cases true = refl
    by_cases false = refl

end_begins : (b : Bool) (bytes u : List ℕ) (rest : List (List ℕ)) → Begins (bytes ++ u) rest → Begins bytes (if b then (bytes ++ take 4 u) ∷ [] else rest)
end_begins true bytes u rest h = record { more = take 4 u; others = []; are = refl }
end_begins false bytes u rest h = shorter bytes u rest h

picture_begins : (e b : Bool) (bytes u : List ℕ) (next rest : List (List ℕ)) → Begins (bytes ++ u) rest → Begins bytes (if e then bytes ∷ take 4 u ∷ [] else if b then bytes ∷ next else rest)
picture_begins true b bytes u next rest h = record { more = []; others = take 4 u ∷ []; are = ap (λ (x : List ℕ). x ∷ take 4 u ∷ []) (sym (append-nil bytes)) }
picture_begins false true bytes u next rest h = record { more = []; others = next; are = ap (λ (x : List ℕ). x ∷ next) (sym (append-nil bytes)) }
picture_begins false false bytes u next rest h = shorter bytes u rest h

-- the pieces of units begin with the bytes that the piece at hand has, where there are some
begins_with : (picture : Bool) (b : ℕ) (bs : List ℕ) (us : List (List ℕ)) → Begins (b ∷ bs) (grouped (phase_by picture) (b ∷ bs) us)
unfolding grouped phase_by
begins_with true b bs [] = record { more = []; others = []; are = ap (λ (x : List ℕ). (b ∷ x) ∷ []) (sym (append-nil bs)) }
begins_with false b bs [] = record { more = []; others = []; are = ap (λ (x : List ℕ). (b ∷ x) ∷ []) (sym (append-nil bs)) }
begins_with true b bs (u ∷ us) = picture_begins (is_end (slice_index u 3)) (begins_piece (slice_index u 3)) (b ∷ bs) u _ _ (begins_with true b (bs ++ u) us)
begins_with false b bs (u ∷ us) =
    end_begins (is_end (slice_index u 3)) (b ∷ bs) u _
    (subst (λ (phase : Phase). Begins (b ∷ (bs ++ u)) (grouped phase (b ∷ (bs ++ u)) us)) (sym (by_value (slice_index u 3))) (begins_with (nat_eq (slice_index u 3) 0) b (bs ++ u) us))

open_begins : (picture : Bool) (b : ℕ) (bs t : List ℕ) → Begins (b ∷ bs) (open_pieces (phase_by picture) (b ∷ bs) t)
unfolding open_pieces
open_begins picture b bs t = shorter (b ∷ bs) (cut 0 t).0 _ (begins_with picture b (bs ++ (cut 0 t).0) (cut 0 t).1)

pub begins_headers : (b : ℕ) (bs t : List ℕ) → Begins (b ∷ bs) (open_pieces Headers (b ∷ bs) t)
unfolding phase_by
begins_headers b bs t = open_begins false b bs t

pub begins_picture : (b : ℕ) (bs t : List ℕ) → Begins (b ∷ bs) (open_pieces Picture (b ∷ bs) t)
unfolding phase_by
begins_picture b bs t = open_begins true b bs t

pub begins_behind : (v b : ℕ) (bs t : List ℕ) → Begins (b ∷ bs) (open_pieces (phase_after Headers v) (b ∷ bs) t)
begins_behind v b bs t = subst (λ (phase : Phase). Begins (b ∷ bs) (open_pieces phase (b ∷ bs) t)) (sym (by_value v)) (open_begins (nat_eq v 0) b bs t)

pub behind_is_open : (v place : ℕ) (t : List ℕ) → open_start (phase_after Headers v) place t ≡ place
unfolding phase_after open_start
behind_is_open v place t = by_cases (nat_eq v 0)
  where
    by_cases : (b : Bool) → open_start (if b then Picture else Headers) place t ≡ place
    by_cases true = refl
    by_cases false = refl

pub behind_not_before : (v : ℕ) → phase_after Headers v ≡ Before → ⊥
unfolding phase_after
behind_not_before v = by_cases (nat_eq v 0)
  where
    by_cases : (b : Bool) → (if b then Picture else Headers) ≡ Before → ⊥
    by_cases true e = absurd cc
    by_cases false e = absurd cc

-- a value that begins no piece isn't that of the end code
or_last : (a b c d : Bool) → (a || b || c || d) ≡ false → c ≡ false
or_last true b c d e = absurd cc
or_last false true c d e = absurd cc
or_last false false true d e = absurd cc
or_last false false false d e = refl

pub no_end : (v : ℕ) → begins_piece v ≡ false → is_end v ≡ false
unfolding begins_piece is_end
no_end v off = or_last (nat_eq v 0x00) (nat_eq v 0xB3) (nat_eq v 0xB7) (nat_eq v 0xB8) off

-- ---- the end of the text

pub ends_at : (phase : Phase) (sure : List ℕ) (ahead : ℕ) → ahead ≤ 3 → open_pieces phase sure (prefix ahead ++ []) ≡ grouped phase (sure ++ prefix ahead) []
unfolding open_pieces cut
ends_at phase sure zero le = refl
ends_at phase sure (suc zero) le = refl
ends_at phase sure (suc (suc zero)) le = refl
ends_at phase sure (suc (suc (suc zero))) le = refl
ends_at phase sure (suc (suc (suc (suc n)))) le = absurd (omega arith)

pub ends_start : (phase : Phase) (place ahead : ℕ) → ahead ≤ 3 → open_start phase place (prefix ahead ++ []) ≡ place_after phase place (prefix ahead)
unfolding open_start cut before_sequence
ends_start Before place zero le = refl
ends_start Before place (suc zero) le = refl
ends_start Before place (suc (suc zero)) le = refl
ends_start Before place (suc (suc (suc zero))) le = refl
ends_start Before place (suc (suc (suc (suc n)))) le = absurd (omega arith)
ends_start Headers place ahead le = refl
ends_start Picture place ahead le = refl
