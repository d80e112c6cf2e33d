-- A job behind those of one worker.
use Rattle.std.proofs.Common.{◌≡◌, ℕ, zero, suc, ◌+◌, ◌<◌, List, [], ◌∷◌, ◌++◌, length, set, get_or, replicate, refl, sym, ap, ◌∙◌, arith}
use Rattle.std.specs.declared.vec.Vec.{Vec}
use Rattle.std.proofs.lemmas.List.{get_or-map, length-map}
use lib.Seq.{map-set, map-set_same}
use Rattle.m2v_core.specs.Lists.{lists}

module _ {A : Type 0} (vs : List (Vec ℕ A)) (w : ℕ) (v d : Vec ℕ A) where
  pub lists_push : (j : ℕ) → w < length vs → v.items ≡ (get_or vs w d).items ++ j ∷ [] → lists (set vs w v) ≡ set (lists vs) w (get_or (lists vs) w [] ++ j ∷ [])
  lists_push j lt e = map-set (λ (u : Vec ℕ A). u.items) vs w v ∙ ap (set (lists vs) w) (e ∙ ap (λ (l : List ℕ). l ++ j ∷ []) (sym (get_or-map (λ (u : Vec ℕ A). u.items) vs w d [] lt)))

  pub lists_same : v.items ≡ (get_or vs w d).items → lists (set vs w v) ≡ lists vs
  lists_same e = map-set_same (λ (u : Vec ℕ A). u.items) vs w v d e

pub length_lists : {A : Type 0} (vs : List (Vec ℕ A)) → length (lists vs) ≡ length vs
length_lists vs = length-map vs (λ (u : Vec ℕ _). u.items)

pub lists_at : {A : Type 0} (vs : List (Vec ℕ A)) (w : ℕ) (d : Vec ℕ A) → w < length vs → (get_or vs w d).items ≡ get_or (lists vs) w []
lists_at vs w d lt = sym (get_or-map (λ (u : Vec ℕ _). u.items) vs w d [] lt)

pub replicate_more : {X : Type 0} (x : X) (n : ℕ) → replicate n x ++ x ∷ [] ≡ replicate (n + 1) x
replicate_more x zero = refl
replicate_more x (suc n) = ap (λ l. x ∷ l) (replicate_more x n) ∙ (let e : suc (n + 1) ≡ suc n + 1 = omega arith in ap (λ m. replicate m x) e)

lists_append : {A : Type 0} (vs ws : List (Vec ℕ A)) → lists (vs ++ ws) ≡ lists vs ++ lists ws
lists_append [] ws = refl
lists_append (v ∷ vs) ws = ap (λ l. v.items ∷ l) (lists_append vs ws)

pub lists_more : {A : Type 0} (vs : List (Vec ℕ A)) (v : Vec ℕ A) (n : ℕ) → lists vs ≡ replicate n [] → v.items ≡ [] → lists (vs ++ v ∷ []) ≡ replicate (n + 1) []
lists_more vs v n e h = lists_append vs (v ∷ []) ∙ (λ i. e i ++ h i ∷ []) ∙ replicate_more [] n
