-- Whatever stands by a syntax takes a text without a long run of zeros.
use Rattle.std.proofs.Common.{◌≡◌, ℕ, zero, suc, ◌+◌, ◌<◌, ◌≤◌, Bool, true, false, cond, inl, inr, List, [], ◌∷◌, ◌++◌, sym, ap, ◌∙◌, subst, arith, append_assoc}
use Rattle.std.specs.Prelude.{◌&&◌}
use Rattle.std.specs.List.{list_all}
use Rattle.std.proofs.lemmas.Bool.{and_parts, leb-true}
use Rattle.std.specs.Prelude.{nat_le}
use Rattle.m2v_bits.specs.Bits.{bits_of}
use Rattle.m2v_bits.specs.Syntax.{Syntax, done, seq, here, rule, choose, renamed, repeated, Rounds, last, more}
use Rattle.m2v_bits.specs.Leaves.{bits_at, zero_at}
use Rattle.m2v_bits.proofs.Bits.{length-bits_of}
use Rattle.m2v_vlc.specs.Codes.{Row, In, code, code_at}
use Rattle.m2v_model.specs.Texts.{Calm}
use Rattle.m2v_model.proofs.Calm.{calm_more, calm_less, calm_then, calm_any, calm_one, some_one}

-- ---- the front of a text

-- what a text has in front of the rest: where k zeros may still come, and m behind it
pub record Front (k : ℕ) (t rest : List Bool) (m : ℕ) : Type 0 where
  pub text : List Bool
  pub is : t ≡ text ++ rest
  pub calm : Calm k text m

pub front_same : (k m : ℕ) (t rest : List Bool) → m ≤ k → rest ≡ t → Front k t rest m
front_same k m t rest le e = record { text = []; is = sym e; calm = le }

front_then : (k m n : ℕ) (t mid rest : List Bool) → Front k t mid m → Front m mid rest n → Front k t rest n
front_then k m n t mid rest a b = record {
  text = a.text ++ b.text;
  is = a.is ∙ ap (λ (u : List Bool). a.text ++ u) b.is ∙ sym (append_assoc a.text b.text rest);
  calm = calm_then a.text b.text k m n a.calm b.calm;
}

front_from : (k l m : ℕ) (t rest : List Bool) → k ≤ l → Front k t rest m → Front l t rest m
front_from k l m t rest le h = record { text = h.text; is = h.is; calm = calm_more h.text k l m le h.calm }

front_to : (k m n : ℕ) (t rest : List Bool) → n ≤ m → Front k t rest m → Front k t rest n
front_to k m n t rest le h = record { text = h.text; is = h.is; calm = calm_less h.text k m n le h.calm }

-- ---- syntaxes

-- where k zeros may still come, each value that stands takes a calm front, and behind it as many may come as the value says
pub record Calmly {K V : Type 0} (s : Syntax (List Bool) K V) (k : ℕ) (m : V → ℕ) (P : V → Type 0) : Type 0 where
  pub stands : (v : V) (t rest : List Bool) → s.Stands v t rest → P v × Front k t rest (m v)

abbrev pub Any : {V : Type 0} → V → Type 0
Any v = Unit {0}

pub calmly_from : {K V : Type 0} (s : Syntax (List Bool) K V) (k l : ℕ) (m : V → ℕ) (P : V → Type 0) → k ≤ l → Calmly s k m P → Calmly s l m P
calmly_from s k l m P le h = record { stands = λ v t rest x. let y = h.stands v t rest x in (y.0, front_from k l (m v) t rest le y.1) }

pub calmly_to : {K V : Type 0} (s : Syntax (List Bool) K V) (k : ℕ) (m n : V → ℕ) (P Q : V → Type 0) → ((v : V) → n v ≤ m v) → ((v : V) → P v → Q v) → Calmly s k m P → Calmly s k n Q
calmly_to s k m n P Q less turn h = record { stands = λ v t rest x. let y = h.stands v t rest x in (turn v y.0, front_to k (m v) (n v) t rest (less v) y.1) }

pub done_calm : {K V : Type 0} (v : V) (k : ℕ) (m : V → ℕ) (P : V → Type 0) → m v ≤ k → P v → Calmly {K = K} (done v) k m P
unfolding done
done_calm v k m P le p = record { stands = λ w t rest h. (subst P (sym h.0) p, front_same k (m w) t rest (subst (λ x. m x ≤ k) (sym h.0) le) h.1) }

pub here_calm : {K : Type 0} (left : List Bool → ℕ) (k : ℕ) → Calmly {K = K} (here left) k (λ v. k) Any
unfolding here
here_calm left k = record { stands = λ v t rest h. (tt, front_same k k t rest (omega arith) h.1) }

pub zero_calm : {K : Type 0} (k : ℕ) → Calmly {K = K} zero_at k (λ v. k) Any
unfolding zero_at
zero_calm k = record { stands = λ v t rest h. (tt, front_same k k t rest (omega arith) h.1) }

pub rule_calm : {K : Type 0} (holds : Bool) (kind : K) (place k : ℕ) → Calmly (rule holds kind place) k (λ v. k) (λ v. holds ≡ true)
unfolding rule
rule_calm holds kind place k = record { stands = λ v t rest h. (h.0, front_same k k t rest (omega arith) h.1) }

pub seq_calm : {K A B : Type 0} (s : Syntax (List Bool) K A) (u : A → Syntax (List Bool) K B) (k : ℕ) (m : A → ℕ) (n : B → ℕ) (P : A → Type 0) (Q : B → Type 0)
    → Calmly s k m P → ((a : A) → P a → Calmly (u a) (m a) n Q) → Calmly (seq s u) k n Q
unfolding seq
seq_calm s u k m n P Q first then = record {
  stands = λ v t rest h.
      let x = first.stands h.0 t h.1 h.2 in
      let y = (then h.0 x.0).stands v h.1 rest h.3 in
      (y.0, front_then k (m h.0) (n v) t h.1 rest x.1 y.1);
}

pub choose_calm : {K V : Type 0} (b : Bool) (s u : Syntax (List Bool) K V) (k : ℕ) (m : V → ℕ) (P : V → Type 0) → (b ≡ true → Calmly s k m P) → (b ≡ false → Calmly u k m P) → Calmly (choose b s u) k m P
unfolding choose
choose_calm b s u k m P one other = record {
  stands = λ v t rest h. elim h [ inl x ↦ (one x.0).stands v t rest x.1 | inr x ↦ (other x.0).stands v t rest x.1 ];
}

pub renamed_calm : {K L V : Type 0} (f : K → L) (s : Syntax (List Bool) K V) (k : ℕ) (m : V → ℕ) (P : V → Type 0) → Calmly s k m P → Calmly (renamed f s) k m P
unfolding renamed
renamed_calm f s k m P h = record { stands = λ v t rest x. h.stands v t rest x }

-- ---- numbers

pub bits_calm : {K : Type 0} (cut : K) (n k m : ℕ) → n + m ≤ k → n + m ≤ 22 → Calmly (bits_at cut n) k (λ v. m) Any
unfolding bits_at
bits_calm cut n k m le small = record {
  stands = λ v t rest h. (tt, record { text = bits_of n v; is = h.1; calm = calm_any (bits_of n v) k m (omega (arith, le, length-bits_of n v)) (omega (arith, small, length-bits_of n v)) });
}

-- a number that is looked at, and isn't 0
pub number_calm : {K V : Type 0} (cut : K) (n k m : ℕ) (test : ℕ → Bool) (kind : K) (place : ℕ) (u : ℕ → Syntax (List Bool) K V) (l : V → ℕ) (Q : V → Type 0)
    → n ≤ suc k → n + m ≤ 23 → ((v : ℕ) → test v ≡ true → 0 < v) → ((v : ℕ) → Calmly (u v) m l Q)
    → Calmly (seq (bits_at cut n) (λ v. seq (rule (test v) kind place) (λ x. u v))) k l Q
unfolding bits_at seq rule
number_calm cut n k m test kind place u l Q le small some then = record {
  stands = λ w t rest h.
      let v = h.0 in
      let mid = h.1 in
      let told = h.2 in
      let behind = h.3 in
      let len = length-bits_of n v in
      let one = some_one n v (some v behind.2.0) told.0 in
      let number : Front k t mid m = record { text = bits_of n v; is = told.1; calm = calm_one (bits_of n v) k m one (omega (arith, le, len)) (omega (arith, small, len)) } in
      let y = (then v).stands w behind.1 rest behind.3 in
      let back : Front m mid rest (l w) = subst (λ (z : List Bool). Front m z rest (l w)) behind.2.1 y.1 in
      (y.0, front_then k m (l w) t mid rest number back);
}

-- ---- rounds

module _ {K S : Type 0} (round : S → Syntax (List Bool) K (Bool × S)) (k m : ℕ) (each : (s : S) → Calmly (round s) k (λ x. cond x.0 k m) Any) where
  pub rounds_front : (s z : S) (t rest : List Bool) → Rounds round s z t rest → Front k t rest m
  rounds_front s z t rest (last h) = ((each s).stands (false, z) t rest h).1
  rounds_front s z t rest (more {m = n} {mid = mid} h others) = front_then k k m t mid rest ((each s).stands (true, n) t mid h).1 (rounds_front n z mid rest others)

  pub repeated_calm : (left : List Bool → ℕ) (kind : K) (s : S) → Calmly (repeated left kind round s) k (λ z. m) Any
  unfolding repeated
  repeated_calm left kind s = record { stands = λ z t rest h. (tt, rounds_front s z t rest h) }

-- ---- codes

-- the same as a test
unfoldable pub is_calm : ℕ → List Bool → ℕ → Bool
is_calm k [] m = nat_le m k
is_calm k (true ∷ bs) m = is_calm 22 bs m
is_calm zero (false ∷ bs) m = false
is_calm (suc k) (false ∷ bs) m = is_calm k bs m

calm_by : (t : List Bool) (k m : ℕ) → is_calm k t m ≡ true → Calm k t m
unfolding is_calm
calm_by [] k m e = leb-true m k e
calm_by (true ∷ t) k m e = calm_by t 22 m e
calm_by (false ∷ t) zero m e = absurd cc
calm_by (false ∷ t) (suc k) m e = calm_by t k m e

passes : {V : Type 0} (test : Row V → Bool) (table : List (Row V)) (r : Row V) → list_all test table ≡ true → In table r → test r ≡ true
passes test [] r e i = absurd i
passes test (s ∷ table) r e i =
    let h = and_parts (test s) (list_all test table) e in
    elim i [ inl same ↦ subst (λ x. test x ≡ true) same h.0 | inr later ↦ passes test table r h.1 later ]

-- a row's code is calm, and its value passes a test
abbrev pub row_calm : {V : Type 0} → ℕ → (V → ℕ) → (V → Bool) → Row V → Bool
row_calm k m test r = test r.value && is_calm k (code r) (m r.value)

pub code_calm : {K V : Type 0} (cut none : K) (table : List (Row V)) (k : ℕ) (m : V → ℕ) (test : V → Bool) → list_all (row_calm k m test) table ≡ true → Calmly (code_at cut none table) k m (λ v. test v ≡ true)
unfolding code_at
code_calm {V = V} cut none table k m test e = record {
  stands = λ v t rest h.
      let r = h.0 in
      let both = and_parts (test r.value) (is_calm k (code r) (m r.value)) (passes (row_calm k m test) table r e h.1) in (
        subst (λ (x : V). test x ≡ true) h.2 both.0,
        record { text = code r; is = h.3; calm = subst (λ (x : V). Calm k (code r) (m x)) h.2 (calm_by (code r) k (m r.value) both.1) },
      );
}
