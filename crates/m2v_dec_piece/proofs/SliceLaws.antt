-- From where on the bytes of a piece are slices alone, as others are appended.
use Rattle.std.proofs.Common.{◌≡◌, ℕ, zero, suc, ◌+◌, ◌-◌, ◌<◌, ◌≤◌, true, false, List, [], ◌∷◌, ◌++◌, length, get_or, min, replicate, refl, sym, ap, subst, ◌∙◌, append_assoc, arith, inl, inr}
use Rattle.std.specs.Prelude.{nat_eq, if◌then◌else◌}
use Rattle.std.proofs.lemmas.Bool.{cases_Bool, cases_lt, cases_eq, both_ways, and_parts, eqb-true, leb-true}
use Rattle.std.proofs.lemmas.Bool.Decides.{nat_tests}
use Rattle.std.proofs.lemmas.List.{length-append, get_or_append_left, get_or-append-add, get_or_past}
use Rattle.m2v_model.specs.m2v_bits.Bits.{IsStartCode}
use Rattle.m2v_model.specs.declared.phase.Phase.{Phase}
use Rattle.m2v_model.specs.declared.phase.Phase.TheVariants.{Before, Headers, Picture}
use Rattle.m2v_model.proofs.CutLaws.{code_none, code_at}
use Rattle.m2v_dec_piece.specs.declared.answer.Piece.{Piece}
use Rattle.m2v_dec_piece.specs.Cutting.{Held, Fits, IsPiece, IsRun, behind, code_of, prefix, sure_after}
use Rattle.m2v_dec_piece.specs.Slices.{is_slice, OnlySlices, IsSliced, whole_of}
use Rattle.m2v_dec_piece.proofs.WholeLaws.{whole_is}
use Rattle.m2v_dec_piece.proofs.TrimLaws.{length-sure}

-- ---- bytes that are appended

-- the prefixes that end in bytes that are appended
abbrev Ends : ℕ → List ℕ → List ℕ → Type 0
Ends from bytes more =
    (k : ℕ) → from ≤ k → length bytes ≤ k + 2 → IsStartCode (bytes ++ more) k → (k + 3 < length (bytes ++ more)) × (is_slice (get_or (bytes ++ more) (k + 3) 0) ≡ true)

there : (bytes more : List ℕ) (j i : ℕ) → i ≡ length bytes + j → get_or (bytes ++ more) i 0 ≡ get_or more j 0
there bytes more j i at = ap (λ (n : ℕ). get_or (bytes ++ more) n 0) at ∙ get_or-append-add bytes more j 0

more_sliced : (from ahead later : ℕ) (bytes more : List ℕ) → IsSliced from bytes ahead → Ends from bytes more
    → (later < 2 → from < length (bytes ++ more) → 0 < get_or (bytes ++ more) (length (bytes ++ more) - 1) 0) → IsSliced from (bytes ++ more) later
more_sliced from ahead later bytes more s ends last = record {
  values = λ k le code.
      elim (cases_lt (k + 2) (length bytes)) [
        | inl lt ↦
            let here = λ (i : ℕ) (in_front : i < length bytes). get_or_append_left bytes more 0 i in_front in
            let own = s.values k le (lt, sym (here k (omega (arith, lt))) ∙ code.1, sym (here (k + 1) (omega (arith, lt))) ∙ code.2, sym (here (k + 2) lt) ∙ code.3) in
            (omega (arith, own.0, length-append bytes more), ap is_slice (here (k + 3) own.0) ∙ own.1)
        | inr ge ↦ ends k le ge code
      ];
  last = last;
}

-- where nothing stands behind a place
pub none_sliced : (from : ℕ) (bytes : List ℕ) (ahead : ℕ) → length bytes ≤ from → IsSliced from bytes ahead
none_sliced from bytes ahead most = record {
  values = λ k le code. absurd (omega (arith, most, le, code.0));
  last = λ few lt. absurd (omega (arith, most, lt));
}

pub longer_sliced : (from : ℕ) (bytes : List ℕ) (ahead later : ℕ) → ahead ≤ later → IsSliced from bytes ahead → IsSliced from bytes later
longer_sliced from bytes ahead later le s = record { values = s.values; last = λ few lt. s.last (omega (arith, le, few)) lt }

-- a zero byte
zero_sliced : (from : ℕ) (bytes : List ℕ) (ahead : ℕ) → IsSliced from bytes ahead → IsSliced from (bytes ++ 0 ∷ []) 2
zero_sliced from bytes ahead s =
    let ends : Ends from bytes (0 ∷ []) = λ k le ge code.
    let at : get_or (bytes ++ 0 ∷ []) (k + 2) 0 ≡ 0 = there bytes (0 ∷ []) 0 (k + 2) (omega (arith, ge, code.0, length-append bytes (0 ∷ []))) in
    absurd (omega (arith, at, code.3)) in
    more_sliced from ahead 2 bytes (0 ∷ []) s ends (λ few lt. absurd (omega (arith, few)))

-- a byte that is neither 0 nor 1
other_sliced : (from : ℕ) (bytes : List ℕ) (ahead b : ℕ) → 1 < b → IsSliced from bytes ahead → IsSliced from (bytes ++ b ∷ []) 0
other_sliced from bytes ahead b some s =
    let len = length-append bytes (b ∷ []) in
    let ends : Ends from bytes (b ∷ []) = λ k le ge code.
    let at : get_or (bytes ++ b ∷ []) (k + 2) 0 ≡ b = there bytes (b ∷ []) 0 (k + 2) (omega (arith, ge, code.0, len)) in
    absurd (omega (arith, at, code.3, some)) in
    let last : get_or (bytes ++ b ∷ []) (length (bytes ++ b ∷ []) - 1) 0 ≡ b = there bytes (b ∷ []) 0 _ (omega (arith, len)) in
    more_sliced from ahead 0 bytes (b ∷ []) s ends (λ few lt. omega (arith, last, some))

-- bytes in which no two zeros stand together, behind fewer than two
pub run_sliced : (from : ℕ) (bytes : List ℕ) (ahead : ℕ) (run : List ℕ) → ahead < 2 → IsRun run → 0 < length run → IsSliced from bytes ahead → IsSliced from (bytes ++ run) 0
run_sliced from bytes ahead run few is some s =
    let n = length bytes in
    let len = length-append bytes run in
    let before : (i : ℕ) → i + 1 ≡ n → from ≤ i → 0 < get_or (bytes ++ run) i 0 = λ i end le.
    let at : n - 1 ≡ i = omega (arith, end) in
    omega (arith, s.last few (omega (arith, end, le)), ap (λ (j : ℕ). get_or bytes j 0) at, get_or_append_left bytes run 0 i (omega (arith, end))) in
    let ends : Ends from bytes run = λ k le ge code.
    elim (cases_lt (k + 1) n) [
      | inl two ↦ absurd (omega (arith, before (k + 1) (omega (arith, two, ge)) (omega (arith, le)), code.2))
      | inr one ↦
          elim (cases_lt k n) [
            | inl last ↦ absurd (omega (arith, before k (omega (arith, last, one)) le, code.1))
            | inr none ↦
                let first = there bytes run (k - n) k (omega (arith, none)) in
                let second = there bytes run (k - n + 1) (k + 1) (omega (arith, none)) in
                absurd (omega (arith, is (k - n) (omega (arith, none, code.0, len)), first, second, code.1, code.2))
          ]
    ] in
    let end = length run - 1 in
    let last : get_or (bytes ++ run) (length (bytes ++ run) - 1) 0 ≡ get_or run end 0 = there bytes run end _ (omega (arith, len, some)) in
    more_sliced from ahead 0 bytes run s ends (λ few lt. omega (arith, last, is end (omega (arith, some)), get_or_past run (end + 1) 0 (omega (arith, some))))

two_sliced : (from : ℕ) (bytes : List ℕ) (ahead : ℕ) → IsSliced from bytes ahead → IsSliced from (bytes ++ 0 ∷ 0 ∷ []) 2
two_sliced from bytes ahead s =
    subst (λ (x : List ℕ). IsSliced from x 2) (append_assoc bytes (0 ∷ []) (0 ∷ [])) (zero_sliced from (bytes ++ 0 ∷ []) 2 (zero_sliced from bytes ahead s))

one_run : (b : ℕ) → 0 < b → IsRun (b ∷ [])
one_run b some zero lt = omega (arith, some)
one_run b some (suc k) lt = absurd (omega (arith, lt))

two_run : (b : ℕ) → 0 < b → IsRun (0 ∷ b ∷ [])
two_run b some zero lt = omega (arith, some)
two_run b some (suc zero) lt = omega (arith, some)
two_run b some (suc (suc k)) lt = absurd (omega (arith, lt))

-- a byte that shows that the prefix before it is none
other_prefix : (from : ℕ) (bytes : List ℕ) (ahead b : ℕ) → ahead ≤ 2 → 0 < b → (ahead ≡ 2 → 1 < b) → IsSliced from bytes ahead → IsSliced from (bytes ++ (prefix ahead ++ b ∷ [])) 0
other_prefix from bytes zero b le some one s = run_sliced from bytes 0 (b ∷ []) (omega arith) (one_run b some) (omega arith) s
other_prefix from bytes (suc zero) b le some one s = run_sliced from bytes 1 (0 ∷ b ∷ []) (omega arith) (two_run b some) (omega arith) s
other_prefix from bytes (suc (suc zero)) b le some one s =
    subst (λ (x : List ℕ). IsSliced from x 0) (append_assoc bytes (0 ∷ 0 ∷ []) (b ∷ [])) (other_sliced from (bytes ++ 0 ∷ 0 ∷ []) 2 b (one refl) (two_sliced from bytes 2 s))
other_prefix from bytes (suc (suc (suc n))) b le some one s = absurd (omega (arith, le))

slice_some : (value : ℕ) → is_slice value ≡ true → 0 < value
slice_some value is = leb-true 1 value (and_parts _ _ is).0

-- a start code of a slice
code_sliced : (from : ℕ) (bytes : List ℕ) (ahead value : ℕ) → is_slice value ≡ true → IsSliced from bytes ahead → IsSliced from (bytes ++ code_of value) 0
code_sliced from bytes ahead value is s =
    let front = bytes ++ 0 ∷ 0 ∷ [] in
    let more : List ℕ = 1 ∷ value ∷ [] in
    let len = length-append front more in
    let ends : Ends from front more = λ k le ge code.
    elim (cases_eq (k + 2) (length front)) [
      | inl at ↦
          let its : get_or (front ++ more) (k + 3) 0 ≡ value = there front more 1 (k + 3) (omega (arith, at)) in
          (omega (arith, at, len), ap is_slice its ∙ is)
      | inr off ↦
          let it : get_or (front ++ more) (k + 1) 0 ≡ 1 = there front more 0 (k + 1) (omega (arith, ge, code.0, len, off)) in
          absurd (omega (arith, it, code.2))
    ] in
    let last : get_or (front ++ more) (length (front ++ more) - 1) 0 ≡ value = there front more 1 _ (omega (arith, len)) in
    subst (λ (x : List ℕ). IsSliced from x 0) (append_assoc bytes (0 ∷ 0 ∷ []) more)
    (more_sliced from 2 0 front more (two_sliced from bytes ahead s) ends (λ few lt. omega (arith, last, slice_some value is)))

-- ---- what is held

-- before the first piece nothing is
after_sliced : (phase : Phase) (from : ℕ) (sure xs : List ℕ) (later : ℕ) → (phase ≡ Before → sure ≡ []) → IsSliced from (sure ++ xs) later → IsSliced from (sure_after phase sure xs) later
after_sliced Before from sure xs later none s = none_sliced from sure later (omega (arith, ap length (none refl)))
after_sliced Headers from sure xs later none s = s
after_sliced Picture from sure xs later none s = s

abbrev pub Knows : ℕ → Held → Type 0
Knows from h = IsSliced from h.sure h.ahead

pub knows_zero : (h new : Held) (from : ℕ) → h.ahead ≡ 2 → Fits h → new ≡ behind h (0 ∷ []) → Knows from h → Knows from new
knows_zero h new from two fits is s =
    subst (Knows from) (sym is)
    (after_sliced h.phase from h.sure (0 ∷ []) h.ahead fits.none
    (subst (λ (n : ℕ). IsSliced from (h.sure ++ 0 ∷ []) n) (sym two) (zero_sliced from h.sure h.ahead s)))

pub knows_other : (h new : Held) (b from : ℕ) → h.ahead ≤ 2 → nat_eq b 0 ≡ false → (h.ahead ≡ 2 → nat_eq b 1 ≡ false) → Fits h
    → new ≡ record (behind h (prefix h.ahead ++ b ∷ [])) { ahead = 0 } → Knows from h → Knows from new
knows_other h new b from le some one fits is s =
    let positive : 0 < b = grind (arith, nat_tests) in
    let larger : h.ahead ≡ 2 → 1 < b = λ two. let off = one two in grind (arith, nat_tests) in
    subst (Knows from) (sym is)
    (after_sliced h.phase from h.sure (prefix h.ahead ++ b ∷ []) 0 fits.none (other_prefix from h.sure h.ahead b le positive larger s))

-- behind a slice as many bytes stand before all that is slices as before it, behind another unit all
pub knows_code : (h new : Held) (value from later long : ℕ) → Fits h → new ≡ record (behind h (code_of value)) { ahead = 0 } → length new.sure ≡ long
    → later ≡ (if is_slice value then from else long) → Knows from h → Knows later new
knows_code h new value from later long fits is len at s =
    elim (cases_Bool (is_slice value)) [
      | inl on ↦
          let same : later ≡ from = rw on at at in
          subst (λ (n : ℕ). Knows n new) (sym same)
          (subst (Knows from) (sym is) (after_sliced h.phase from h.sure (code_of value) 0 fits.none (code_sliced from h.sure h.ahead value on s)))
      | inr off ↦
          let all : later ≡ long = rw off at at in
          none_sliced later new.sure new.ahead (omega (arith, all, len))
    ]

-- ---- a piece that is handed out

pub only_slices : (from : ℕ) (bytes : List ℕ) (ahead : ℕ) → IsSliced from bytes ahead → OnlySlices (min from (length bytes)) bytes
only_slices from bytes ahead s k le on =
    elim (cases_lt 3 (length bytes - k)) [
      | inr short ↦ absurd (both_ways _ (code_none bytes k short) on)
      | inl lt ↦
          let tests = sym (code_at bytes k lt) ∙ on in
          let first = and_parts _ _ tests in
          let others = and_parts _ _ first.1 in
          (s.values k (omega (arith, le, lt)) (omega (arith, lt), eqb-true _ _ first.0, eqb-true _ _ others.0, eqb-true _ _ others.1)).1
    ]

pub piece_slices : (p : Piece) (place : ℕ) (whole : List ℕ) (from ahead slices : ℕ) → IsPiece p place whole → IsSliced from whole ahead → slices ≡ min from p.length → OnlySlices slices (whole_of p)
piece_slices p place whole from ahead slices is s at =
    let least : slices ≡ min from (length whole) = at ∙ ap (min from) is.length in
    subst (λ (x : List ℕ). OnlySlices slices x) (sym (whole_is p place whole is)) (subst (λ (n : ℕ). OnlySlices n whole) (sym least) (only_slices from whole ahead s))

-- ---- the same as they are kept, with the zero bytes that stand last counted

pub unknown_sliced : (from : ℕ) (bytes : List ℕ) (zeros ahead : ℕ) → length bytes + zeros ≤ from → IsSliced from (bytes ++ replicate zeros 0) ahead
unknown_sliced from bytes zeros ahead most = none_sliced from (bytes ++ replicate zeros 0) ahead (omega (arith, most, length-sure bytes zeros))
