-- The laws of the leaves, and what the words of syntax spell.
use Rattle.std.proofs.Common.{◌≡◌, ℕ, ◌^◌, ◌<◌, ◌≤◌, Bool, true, false, cond, ltb, List, [], ◌++◌, length, take, drop, inl, inr, refl, sym, ap, subst, append_assoc, arith}
use Rattle.std.proofs.lemmas.Bool.{ltb-true, ltb-false, lt-ltb, le-ltb}
use Rattle.std.proofs.lemmas.List.{length-append, length-take, take-append-drop, take_at, drop_at}
use Rattle.std.proofs.Math.Nat.{mod-eq_of_lt}
use Rattle.m2v_bits.specs.Bits.{bits_of, number, all_zero, first_one}
use Rattle.m2v_bits.specs.Syntax.{Syntax, done, seq, here, rule, choose, renamed, Spells}
use Rattle.m2v_bits.specs.Leaves.{bits_at, zero_at, end_at}
use Rattle.m2v_bits.proofs.Bits.{length-bits_of, bits_of-number, number-bits_of, number_below}
use Rattle.m2v_bits.proofs.SyntaxLaws.{Lawful, Takes, Strict, good, bad, good_is}

cut_good : {K A : Type 0} (b : Bool) (f : K × ℕ) (x y : A × List Bool) → cond b (bad f) (good x) ≡ good y → (b ≡ false) × (x ≡ y)
cut_good true f x y e = absurd cc
cut_good false f x y e = (refl, cc)

cut_bad : {K A : Type 0} (b : Bool) (f g : K × ℕ) (x : A × List Bool) → cond b (bad f) (good x) ≡ bad g → (b ≡ true) × (g ≡ f)
cut_bad true f g x e = (refl, cc)
cut_bad false f g x e = absurd cc

pub bits_lawful : {K : Type 0} (cut : K) (n : ℕ) → Lawful length (bits_at cut n)
unfolding bits_at
bits_lawful cut n = record {
  found = λ v t rest e.
      let g = cut_good (ltb (length t) n) (cut, length t) (number (take n t), drop n t) (v, rest) e in
      let long : n ≤ length t = ltb-false _ _ g.0 in
      let len : length (take n t) ≡ n = omega (arith, length-take n t) in
      let front : bits_of n (number (take n t)) ≡ take n t = rw len at (bits_of-number (take n t)) in
      let below : number (take n t) < 2 ^ n = rw len at (number_below (take n t)) in
      subst (λ (y : ℕ × List Bool). (y.0 < 2 ^ n) × (t ≡ bits_of n y.0 ++ y.1)) g.1 (below, rw front (sym (take-append-drop n t)));
  only = λ v t rest st.
      let long : ltb (length (bits_of n v ++ rest)) n ≡ false = le-ltb _ _ (omega (arith, length-append (bits_of n v) rest, length-bits_of n v)) in
      rw (st.1, long, take_at (bits_of n v) rest n (length-bits_of n v), drop_at (bits_of n v) rest n (length-bits_of n v), number-bits_of n v, mod-eq_of_lt st.0) refl;
  first = λ t f e. let g = cut_bad (ltb (length t) n) (cut, length t) f (number (take n t), drop n t) e in (ltb-true _ _ g.0, g.1);
  refused = λ t f b. rw (lt-ltb _ _ b.0, b.1) refl;
  shorter = λ v t rest st. omega (arith, ap length st.1, length-append (bits_of n v) rest);
}

pub bits_takes : {K : Type 0} (cut : K) (n : ℕ) → 0 < n → Takes length (bits_at cut n)
unfolding bits_at
bits_takes cut n some = record { less = λ v t rest st. omega (arith, ap length st.1, length-append (bits_of n v) rest, length-bits_of n v) }

pub zero_lawful : {K : Type 0} → Lawful {K = K} length zero_at
unfolding zero_at
zero_lawful {K} = record {
  found = λ w t rest e. let g = good_is {K = K} (all_zero t, t) (w, rest) e in (sym (ap (λ (x : Bool × List Bool). x.0) g), sym (ap (λ (x : Bool × List Bool). x.1) g));
  only = λ w t rest st. rw (st.0, st.1) refl;
  first = λ t f e. absurd cc;
  refused = λ t f b. absurd b;
  shorter = λ w t rest st. rw (st.1) (omega arith);
}

swap : {K A : Type 0} (b : Bool) (f : K × ℕ) (x y : A × List Bool) → cond b (good x) (bad f) ≡ good y → (b ≡ true) × (x ≡ y)
swap true f x y e = (refl, cc)
swap false f x y e = absurd cc

swap_bad : {K A : Type 0} (b : Bool) (f g : K × ℕ) (x : A × List Bool) → cond b (good x) (bad f) ≡ bad g → (b ≡ false) × (g ≡ f)
swap_bad true f g x e = absurd cc
swap_bad false f g x e = (refl, cc)

pub end_lawful : {K : Type 0} (one : K) → Lawful length (end_at one)
unfolding end_at
end_lawful one = record {
  found = λ v t rest e. let g = swap (all_zero t) (one, first_one t) (tt, []) (v, rest) e in (g.0, sym (ap (λ (x : Unit {0} × List Bool). x.1) g.1));
  only = λ v t rest st. rw (st.0, st.1) refl;
  first = λ t f e. let g = swap_bad (all_zero t) (one, first_one t) f (tt, []) e in (g.0, g.1);
  refused = λ t f b. rw (b.0, b.1) refl;
  shorter = λ v t rest st. rw (st.1) (omega arith);
}

pub bits_strict : {K : Type 0} (cut : K) (n : ℕ) → 0 < n → Strict length (bits_at cut n)
bits_strict cut n some = record { lawful = bits_lawful cut n; takes = bits_takes cut n some }

-- ---- writing

pub seq_spells : {K A B : Type 0} {s : Syntax (List Bool) K A} (k : A → Syntax (List Bool) K B) (a : A) (b : B) (x y : List Bool) → Spells s a x → Spells (k a) b y → Spells (seq s k) b (x ++ y)
unfolding seq
seq_spells k a b x y p q = record { stands = λ rest. (a, y ++ rest, rw (append_assoc x y rest) (p.stands (y ++ rest)), q.stands rest) }

pub done_spells : {K V : Type 0} (v : V) → Spells {K = K} (done v) v []
unfolding done
done_spells v = record { stands = λ rest. (refl, refl) }

-- a place may be told before anything that is spelled
pub here_spells : {K V : Type 0} (left : List Bool → ℕ) (k : ℕ → Syntax (List Bool) K V) (v : V) (text : List Bool) → ((a : ℕ) → Spells (k a) v text) → Spells (seq (here left) k) v text
unfolding seq here
here_spells left k v text h = record { stands = λ rest. (left (text ++ rest), text ++ rest, (refl, refl), (h (left (text ++ rest))).stands rest) }

-- a rule that holds spells nothing
pub rule_spells : {K V : Type 0} (b : Bool) (kind : K) (place : ℕ) (k : Unit {0} → Syntax (List Bool) K V) (v : V) (text : List Bool) → b ≡ true → Spells (k tt) v text → Spells (seq (rule b kind place) k) v text
unfolding seq rule
rule_spells b kind place k v text holds h = record { stands = λ rest. (tt, text ++ rest, (holds, refl), h.stands rest) }

pub first_spells : {K V : Type 0} (b : Bool) (s u : Syntax (List Bool) K V) (v : V) (text : List Bool) → b ≡ true → Spells s v text → Spells (choose b s u) v text
unfolding choose
first_spells b s u v text e h = record { stands = λ rest. inl (e, h.stands rest) }

pub second_spells : {K V : Type 0} (b : Bool) (s u : Syntax (List Bool) K V) (v : V) (text : List Bool) → b ≡ false → Spells u v text → Spells (choose b s u) v text
unfolding choose
second_spells b s u v text e h = record { stands = λ rest. inr (e, h.stands rest) }

pub renamed_spells : {K L V : Type 0} (f : K → L) (s : Syntax (List Bool) K V) (v : V) (text : List Bool) → Spells s v text → Spells (renamed f s) v text
unfolding renamed
renamed_spells f s v text h = record { stands = h.stands }

pub bits_spells : {K : Type 0} (cut : K) (n v : ℕ) → v < 2 ^ n → Spells (bits_at cut n) v (bits_of n v)
unfolding bits_at
bits_spells cut n v below = record { stands = λ rest. (below, refl) }
