-- The words of syntax. An element of a stream is written once, as a `Syntax`: how a text is read,
-- what stands in it, and how it is broken. Elements are joined by `do`, in the order of the
-- standard's syntax tables (clause 6.2); reading order is the order of the lines.
use Rattle.std.specs.Prelude.{◌≡◌, ℕ, zero, suc, Bool, true, false, cond, Result, Ok, Err, ◌⊎◌, List, ◌++◌, length}

-- T is the type of texts, K that of the kinds of faults, V that of values.
-- A fault is its kind, and how much of the text is left at its place.
pub record Syntax (T K V : Type 0) : Type 1 where
  -- the value and the text behind it, or the first fault
  pub read : T → Result (V × T) (K × ℕ)
  -- the value stands between two points of a text
  pub Stands : V → T → T → Type 0
  -- the text is broken so from this point on
  pub Broken : T → K × ℕ → Type 0

unfoldable pub bind : {F A B T : Type 0} → Result (A × T) F → (A → T → Result B F) → Result B F
bind (Ok x) f = f x.0 x.1
bind (Err e) f = Err e

-- nothing more
unfoldable pub done : {T K V : Type 0} → V → Syntax T K V
done v = record { read = λ t. Ok (v, t); Stands = λ w t rest. (w ≡ v) × (rest ≡ t); Broken = λ t f. ⊥ }

-- one syntax, and then the one that its value asks for
unfoldable pub seq : {T K A B : Type 0} → Syntax T K A → (A → Syntax T K B) → Syntax T K B
seq {T} {K} {A} s k = record {
  read = λ t. bind (s.read t) (λ a mid. (k a).read mid);
  Stands = λ v t rest. (a : A) × (mid : T) × s.Stands a t mid × (k a).Stands v mid rest;
  Broken = λ t f. s.Broken t f ⊎ ((a : A) × (mid : T) × s.Stands a t mid × (k a).Broken mid f);
}

infixl 10 ◌>>=◌
abbrev pub ◌>>=◌ : {T K A B : Type 0} → Syntax T K A → (A → Syntax T K B) → Syntax T K B
s >>= k = seq s k

-- how much is left at this point: the place that a later rule tells
unfoldable pub here : {T K : Type 0} → (T → ℕ) → Syntax T K ℕ
here left = record { read = λ t. Ok (left t, t); Stands = λ v t rest. (v ≡ left t) × (rest ≡ t); Broken = λ t f. ⊥ }

-- a rule, and the fault that it is broken
unfoldable pub rule : {T K : Type 0} → Bool → K → ℕ → Syntax T K (Unit {0})
rule holds kind place = record {
  read = λ t. cond holds (Ok (tt, t)) (Err (kind, place));
  Stands = λ v t rest. (holds ≡ true) × (rest ≡ t);
  Broken = λ t f. (holds ≡ false) × (f ≡ (kind, place));
}

-- one or the other
unfoldable pub choose : {T K V : Type 0} → Bool → Syntax T K V → Syntax T K V → Syntax T K V
choose b s u = record {
  read = λ t. cond b (s.read t) (u.read t);
  Stands = λ v t rest. ((b ≡ true) × s.Stands v t rest) ⊎ ((b ≡ false) × u.Stands v t rest);
  Broken = λ t f. ((b ≡ true) × s.Broken t f) ⊎ ((b ≡ false) × u.Broken t f);
}

-- rounds that stand one behind another; each says whether another follows
pub data Rounds {T K S : Type 0} (round : S → Syntax T K (Bool × S)) : S → S → T → T → Type 0 where
  last : {s z : S} {t rest : T} → (round s).Stands (false, z) t rest → Rounds round s z t rest
  more : {s m z : S} {t mid rest : T} → (round s).Stands (true, m) t mid → Rounds round m z mid rest → Rounds round s z t rest

-- a round is broken, now or behind rounds that stand
pub data Breaks {T K S : Type 0} (round : S → Syntax T K (Bool × S)) : S → T → K × ℕ → Type 0 where
  now : {s : S} {t : T} {f : K × ℕ} → (round s).Broken t f → Breaks round s t f
  later : {s m : S} {t mid : T} {f : K × ℕ} → (round s).Stands (true, m) t mid → Breaks round m mid f → Breaks round s t f

-- at most n rounds are read; the fault where they are not enough is never met
unfoldable pub rounds : {T K S : Type 0} → K → (S → Syntax T K (Bool × S)) → ℕ → S → T → Result (S × T) (K × ℕ)
rounds kind round zero s t = Err (kind, 0)
rounds kind round (suc n) s t = bind ((round s).read t) (λ x mid. cond x.0 (rounds kind round n x.1 mid) (Ok (x.1, mid)))

-- rounds, one after another, until one says that none follows; each with another behind it takes something
unfoldable pub repeated : {T K S : Type 0} → (T → ℕ) → K → (S → Syntax T K (Bool × S)) → S → Syntax T K S
repeated left kind round s = record {
  read = λ t. rounds kind round (suc (left t)) s t;
  Stands = λ z t rest. Rounds round s z t rest;
  Broken = λ t f. Breaks round s t f;
}

abbrev pub renamed_read : {T K L V : Type 0} → (K → L) → Result (V × T) (K × ℕ) → Result (V × T) (L × ℕ)
renamed_read f (Ok x) = Ok x
renamed_read f (Err e) = Err (f e.0, e.1)

-- the same, with its faults told by other names
unfoldable pub renamed : {T K L V : Type 0} → (K → L) → Syntax T K V → Syntax T L V
renamed {T} {K} f s = record {
  read = λ t. renamed_read f (s.read t);
  Stands = s.Stands;
  Broken = λ t g. (e : K × ℕ) × s.Broken t e × (g ≡ (f e.0, e.1));
}

-- the text of bits spells the value, whatever follows
pub record Spells {K V : Type 0} (s : Syntax (List Bool) K V) (v : V) (text : List Bool) : Type 0 where
  pub stands : (rest : List Bool) → s.Stands v (text ++ rest) rest

-- What a reader returned, and the bits that are left then, is what reading gives;
-- a fault leaves the reader at its place.
abbrev pub Gives : {K V : Type 0} → Result V K → List Bool → Result (V × List Bool) (K × ℕ) → Type 0
Gives (Ok v) rest read = read ≡ Ok (v, rest)
Gives (Err e) rest read = read ≡ Err (e, length rest)
