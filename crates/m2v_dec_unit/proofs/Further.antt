-- What stands further on in a text: behind an element, the same is seen from both of its ends.
use Rattle.std.proofs.Common.{◌≡◌, ℕ, ◌+◌, ◌<◌, ◌^◌, Bool, true, false, leb, List, ◌++◌, length, drop, Some, refl, sym, ap, subst, ◌∙◌, arith}
use Rattle.std.specs.Prelude.{nat_eq}
use Rattle.std.proofs.lemmas.Bool.{leb-true, leb-false, le-leb, lt-leb}
use Rattle.std.proofs.lemmas.List.{length-append, take_at}
use Rattle.std.proofs.Math.Seq.{drop-append-add}
use Rattle.std.proofs.Math.Nat.{mod-eq_of_lt}
use Rattle.m2v_bits.specs.Bits.{bits_of}
use Rattle.m2v_bits.specs.Syntax.{seq, here, rule, done}
use Rattle.m2v_bits.specs.Leaves.{bits_at}
use Rattle.m2v_bits.specs.Elements as elements
use Rattle.m2v_bits.proofs.Bits.{length-bits_of, number-bits_of}
use Rattle.m2v_head.specs.Elements.{number_at, flag_at, id_at, some_at}
use Rattle.m2v_head.specs.Texts.{f_code_of}
use Rattle.m2v_head.specs.Headers.{chroma_format_at, f_codes_at}
use Rattle.m2v_model.specs.Looking.{number_from}

-- k bits stand between two points of a text: what stands further on is seen from both
pub record Skips (k : ℕ) (t mid : List Bool) : Type 0 where
  pub on : (from n : ℕ) → number_from (k + from) n t ≡ number_from from n mid

-- a number of n bits stands between two points of a text
pub record IsAt (n v : ℕ) (t mid : List Bool) : Type 0 where
  pub number : number_from 0 n t ≡ Some v
  pub skips : Skips n t mid

pub skip_more : {a b : ℕ} {t mid rest : List Bool} → Skips a t mid → Skips b mid rest → Skips (a + b) t rest
skip_more {a} {b} {t} {mid} {rest} p q = record {
  on = λ from n.
      let e : (a + b) + from ≡ a + (b + from) = omega arith in
      ap (λ x. number_from x n t) e ∙ p.on (b + from) n ∙ q.on from n;
}

same_by : (k x y : ℕ) (b : Bool) → leb x y ≡ b → leb (k + x) (k + y) ≡ b
same_by k x y true e = le-leb _ _ (omega (arith, leb-true x y e))
same_by k x y false e = lt-leb _ _ (omega (arith, leb-false x y e))

same_leb : (k x y : ℕ) → leb (k + x) (k + y) ≡ leb x y
same_leb k x y = same_by k x y (leb x y) refl

bits_skip : (k v : ℕ) (t : List Bool) → Skips k (bits_of k v ++ t) t
unfolding number_from
bits_skip k v t = record {
  on = λ from n.
      let len : length (bits_of k v ++ t) ≡ k + length t = length-append (bits_of k v) t ∙ ap (λ x. x + length t) (length-bits_of k v) in
      let dropped : drop (k + from) (bits_of k v ++ t) ≡ drop from t = ap (λ x. drop (x + from) (bits_of k v ++ t)) (sym (length-bits_of k v)) ∙ drop-append-add (bits_of k v) t from in
      let e : (k + from) + n ≡ k + (from + n) = omega arith in
      rw (len, dropped, e, same_leb k (from + n) (length t)) refl;
}

bits_first : (n v : ℕ) (t : List Bool) → v < 2 ^ n → number_from 0 n (bits_of n v ++ t) ≡ Some v
unfolding number_from
bits_first n v t below =
    let e : 0 + n ≡ n = omega arith in
    let long : leb n (length (bits_of n v ++ t)) ≡ true = le-leb _ _ (omega (arith, length-append (bits_of n v) t, length-bits_of n v)) in
    rw (e, long, take_at (bits_of n v) t n (length-bits_of n v), number-bits_of n v, mod-eq_of_lt below) refl

-- ---- elements

pub number_is : (n v : ℕ) (t mid : List Bool) → (number_at n).Stands v t mid → IsAt n v t mid
unfolding bits_at
number_is n v t mid st = rw st.1 (record { number = bits_first n v mid st.0; skips = bits_skip n v mid })

pub flag_is : (b : Bool) (t mid : List Bool) → flag_at.Stands b t mid → (v : ℕ) × (b ≡ nat_eq v 1) × IsAt 1 v t mid
unfolding elements.flag_at seq done
flag_is b t mid st = (st.0, st.3.0, subst (IsAt 1 st.0 t) (sym st.3.1) (number_is 1 st.0 t st.1 st.2))

-- an element between the same points, told by other names
framed : {n v w : ℕ} {t start end mid : List Bool} → start ≡ t → w ≡ v → mid ≡ end → IsAt n v start end → IsAt n w t mid
framed {n} {v} {w} {t} {start} {end} {mid} a b c p =
    subst (λ x. IsAt n w x mid) a (subst (λ x. IsAt n x start mid) (sym b) (subst (λ x. IsAt n v start x) (sym c) p))

pub id_skips : (own : ℕ) (x : Unit {0}) (t mid : List Bool) → (id_at own).Stands x t mid → Skips 4 t mid
unfolding id_at seq here rule
id_skips own x t mid st = (framed st.2.1 refl st.3.3.1 (number_is 4 st.3.0 st.1 st.3.1 st.3.2)).skips

pub some_is : (field n v : ℕ) (t mid : List Bool) → (some_at field n).Stands v t mid → IsAt n v t mid
unfolding some_at seq here rule done
some_is field n v t mid st = framed st.2.1 st.3.3.3.0 (st.3.3.3.1 ∙ st.3.3.2.1) (number_is n st.3.0 st.1 st.3.1 st.3.2)

pub format_is : (v : ℕ) (t mid : List Bool) → chroma_format_at.Stands v t mid → IsAt 2 v t mid
unfolding chroma_format_at seq here rule done
format_is v t mid st = framed st.2.1 st.3.3.3.3.0 (st.3.3.3.3.1 ∙ st.3.3.3.2.1 ∙ st.3.3.2.1) (number_is 2 st.3.0 st.1 st.3.1 st.3.2)

-- the four f_codes stand from here on
pub record FCodesAhead (v : List (List ℕ)) (t mid : List Bool) : Type 0 where
  pub forward_horizontal : number_from 0 4 t ≡ Some (f_code_of v 0 0)
  pub forward_vertical : number_from 4 4 t ≡ Some (f_code_of v 0 1)
  pub backward_horizontal : number_from 8 4 t ≡ Some (f_code_of v 1 0)
  pub backward_vertical : number_from 12 4 t ≡ Some (f_code_of v 1 1)
  pub skips : Skips 16 t mid

pub f_codes_ahead : (v : List (List ℕ)) (t mid : List Bool) → f_codes_at.Stands v t mid → FCodesAhead v t mid
unfolding f_codes_at seq done
f_codes_ahead v t mid st =
    let a = number_is 4 st.0 t st.1 st.2 in
    let b = number_is 4 st.3.0 st.1 st.3.1 st.3.2 in
    let c = number_is 4 st.3.3.0 st.3.1 st.3.3.1 st.3.3.2 in
    let d = number_is 4 st.3.3.3.0 st.3.3.1 st.3.3.3.1 st.3.3.3.2 in
    let s8 = skip_more a.skips b.skips in
    let s12 = skip_more s8 c.skips in
    let told = λ (direction component : ℕ). ap (λ (x : List (List ℕ)). Some (f_code_of x direction component)) (sym st.3.3.3.3.0) in
    record {
      forward_horizontal = a.number ∙ told 0 0;
      forward_vertical = a.skips.on 0 4 ∙ b.number ∙ told 0 1;
      backward_horizontal = s8.on 0 4 ∙ c.number ∙ told 1 0;
      backward_vertical = s12.on 0 4 ∙ d.number ∙ told 1 1;
      skips = subst (Skips 16 t) (sym st.3.3.3.3.1) (skip_more s12 d.skips);
    }
