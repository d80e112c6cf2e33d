-- A table that passes its checks is one of prefix codes.
use Rattle.std.proofs.Common.{◌≡◌, ℕ, zero, suc, Bool, true, List, [], ◌∷◌, ◌++◌, Some, refl, sym, subst, append-nil}
use Rattle.std.specs.Prelude.{slice_get}
use Rattle.std.proofs.lemmas.Bool.{and_parts, both_ways}
use Rattle.m2v_bits.proofs.Decisions.{decided}
use Rattle.m2v_vlc.specs.declared.values.CodeFault.TheVariants.{Truncated, NoCode}
use Rattle.m2v_vlc.specs.Codes.{Row, code, begins, is_free, is_other, is_single}
use Rattle.m2v_vlc.specs.Laws.{IsPrefixTable}
use Rattle.m2v_vlc.proofs.LookupLaws.{get_in}
use Rattle.m2v_vlc.proofs.Checks.{Checked}
use Rattle.m2v_vlc.proofs.CodeLaws.{Reflexive, begins_own, free_parts, free_in, apart_in, not_both, other_in, some_is, code_lawful}

one_place : {V : Type 0} (same : V → V → Bool) (t : List (Row V)) → Reflexive same → is_single same t ≡ true → (i j : ℕ) (r s : Row V) → slice_get t i ≡ Some r → slice_get t j ≡ Some s → r.value ≡ s.value → i ≡ j
unfolding is_single
one_place same [] all one i j r s a b e = absurd cc
one_place same (x ∷ t) all one zero zero r s a b e = refl
one_place same (x ∷ t) all one zero (suc j) r s a b e =
    let h = and_parts (is_other same x.value t) (is_single same t) one in
    absurd (both_ways (same x.value s.value) (other_in same x.value t s h.0 (get_in t j s b)) (rw (some_is x r a, e) (all s.value)))
one_place same (x ∷ t) all one (suc i) zero r s a b e =
    let h = and_parts (is_other same x.value t) (is_single same t) one in
    absurd (both_ways (same x.value r.value) (other_in same x.value t r h.0 (get_in t i r a)) (rw (some_is x s b, ← e) (all r.value)))
one_place same (x ∷ t) all one (suc i) (suc j) r s a b e =
    let h = and_parts (is_other same x.value t) (is_single same t) one in
    rw (one_place same t all h.1 i j r s a b e) refl

begins_front : {V : Type 0} (r s : Row V) (rest : List Bool) → code s ≡ code r ++ rest → begins (code r) (code s) ≡ true
begins_front r s rest e = subst (λ (x : List Bool). begins (code r) x ≡ true) (sym e) (begins_own (code r) rest)

begins_itself : {V : Type 0} (s : Row V) → begins (code s) (code s) ≡ true
begins_itself s = subst (λ (x : List Bool). begins (code s) x ≡ true) (append-nil (code s)) (begins_own (code s) [])

apart_place : {V : Type 0} (t : List (Row V)) → is_free t ≡ true → (i j : ℕ) (r s : Row V) (rest : List Bool) → slice_get t i ≡ Some r → slice_get t j ≡ Some s → code s ≡ code r ++ rest → i ≡ j
apart_place [] free i j r s rest a b e = absurd cc
apart_place (x ∷ t) free zero zero r s rest a b e = refl
apart_place {V} (x ∷ t) free zero (suc j) r s rest a b e =
    let h = free_parts x t free in
    let i = get_in t j s b in
    let front : begins (code x) (code s) ≡ true = subst (λ (y : Row V). begins (code y) (code s) ≡ true) (sym (some_is x r a)) (begins_front r s rest e) in
    absurd (not_both x s (code s) h.0 (free_in t s h.2 i) (apart_in x t s h.1 i) (begins_itself s) front)
apart_place {V} (x ∷ t) free (suc i) zero r s rest a b e =
    let h = free_parts x t free in
    let k = get_in t i r a in
    let own : begins (code x) (code s) ≡ true = subst (λ (y : Row V). begins (code y) (code s) ≡ true) (sym (some_is x s b)) (begins_itself s) in
    absurd (not_both x r (code s) h.0 (free_in t r h.2 k) (apart_in x t r h.1 k) (begins_front r s rest e) own)
apart_place (x ∷ t) free (suc i) (suc j) r s rest a b e =
    let h = free_parts x t free in
    rw (apart_place t h.2 i j r s rest a b e) refl

pub prefix_table : {V : Type 0} (same : V → V → Bool) (t : List (Row V)) → Reflexive same → is_single same t ≡ true → is_free t ≡ true → IsPrefixTable t
prefix_table same t all one free = record { one_row = one_place same t all one; apart = apart_place t free; decided = decided (code_lawful Truncated NoCode t free) }

pub prefix_of : {V : Type 0} {same : V → V → Bool} {d : V} {w : ℕ} {entries : List (V × ℕ × ℕ)} {lookup : List ℕ} {t : List (Row V)} → Checked same d w entries lookup t → Reflexive same → IsPrefixTable t
prefix_of {V} {same} {d} {w} {entries} {lookup} {t} c all = prefix_table same t all c.single c.free
