-- What is read stands there, and what stands there is read; what is refused is broken so, and what is broken is refused.
use Rattle.std.proofs.Common.{◌≡◌, ℕ, zero, suc, ◌<◌, ◌≤◌, Bool, true, false, cond, Ok, Err, Result, ◌⊎◌, inl, inr, refl, sym, ap, subst, ◌∙◌, arith}
use Rattle.m2v_bits.specs.Syntax.{Syntax, bind, done, seq, here, rule, choose, Rounds, last, more, Breaks, now, later, rounds, repeated, renamed, renamed_read}

abbrev pub good : {T K V : Type 0} → V × T → Result (V × T) (K × ℕ)
good x = Ok x

abbrev pub bad : {T K V : Type 0} → K × ℕ → Result (V × T) (K × ℕ)
bad f = Err f

pub record Lawful {T K V : Type 0} (left : T → ℕ) (s : Syntax T K V) : Type 0 where
  pub found : (v : V) (t rest : T) → s.read t ≡ good (v, rest) → s.Stands v t rest
  pub only : (v : V) (t rest : T) → s.Stands v t rest → s.read t ≡ good (v, rest)
  pub first : (t : T) (f : K × ℕ) → s.read t ≡ bad f → s.Broken t f
  pub refused : (t : T) (f : K × ℕ) → s.Broken t f → s.read t ≡ bad f
  pub shorter : (v : V) (t rest : T) → s.Stands v t rest → left rest ≤ left t

-- it takes something
pub record Takes {T K V : Type 0} (left : T → ℕ) (s : Syntax T K V) : Type 0 where
  pub less : (v : V) (t rest : T) → s.Stands v t rest → left rest < left t

pub good_is : {T K V : Type 0} (x y : V × T) → good {K = K} x ≡ good y → x ≡ y
good_is x y e = cc

bind_good : {T K A B : Type 0} (r : Result (A × T) (K × ℕ)) (f : A → T → Result (B × T) (K × ℕ)) (y : B × T) → bind r f ≡ good y → (a : A) × (mid : T) × (r ≡ good (a, mid)) × (f a mid ≡ good y)
unfolding bind
bind_good (Ok x) f y e = (x.0, x.1, refl, e)
bind_good (Err d) f y e = absurd cc

bind_bad : {T K A B : Type 0} (r : Result (A × T) (K × ℕ)) (f : A → T → Result (B × T) (K × ℕ)) (g : K × ℕ) → bind r f ≡ bad g → (r ≡ bad g) ⊎ ((a : A) × (mid : T) × (r ≡ good (a, mid)) × (f a mid ≡ bad g))
unfolding bind
bind_bad (Ok x) f g e = inr (x.0, x.1, refl, e)
bind_bad (Err d) f g e = inl cc

same_bind : {T K A B : Type 0} (r : Result (A × T) (K × ℕ)) (f g : A → T → Result (B × T) (K × ℕ)) → ((a : A) (mid : T) → r ≡ good (a, mid) → f a mid ≡ g a mid) → bind r f ≡ bind r g
unfolding bind
same_bind (Ok x) f g e = e x.0 x.1 refl
same_bind (Err d) f g e = refl

pub done_lawful : {T K V : Type 0} (left : T → ℕ) (v : V) → Lawful left (done {T = T} {K = K} v)
unfolding done
done_lawful {T} {K} {V} left v = record {
  found = λ w t rest e. let g = good_is (v, t) (w, rest) e in (sym (ap (λ (x : V × T). x.0) g), sym (ap (λ (x : V × T). x.1) g));
  only = λ w t rest st. rw (st.0, st.1) refl;
  first = λ t f e. absurd cc;
  refused = λ t f b. absurd b;
  shorter = λ w t rest st. rw (st.1) (omega arith);
}

pub here_lawful : {T K : Type 0} (measure left : T → ℕ) → Lawful measure (here {T = T} {K = K} left)
unfolding here
here_lawful {T} {K} measure left = record {
  found = λ w t rest e. let g = good_is (left t, t) (w, rest) e in (sym (ap (λ (x : ℕ × T). x.0) g), sym (ap (λ (x : ℕ × T). x.1) g));
  only = λ w t rest st. rw (st.0, st.1) refl;
  first = λ t f e. absurd cc;
  refused = λ t f b. absurd b;
  shorter = λ w t rest st. rw (st.1) (omega arith);
}

pub rule_lawful : {T K : Type 0} (left : T → ℕ) (b : Bool) (kind : K) (place : ℕ) → Lawful left (rule {T = T} b kind place)
unfolding rule
rule_lawful {T} left true kind place = record {
  found = λ w t rest e. (refl, sym (ap (λ (x : Unit {0} × T). x.1) (good_is (tt, t) (w, rest) e)));
  only = λ w t rest st. rw (st.1) refl;
  first = λ t f e. absurd cc;
  refused = λ t f b. absurd (cc (b.0));
  shorter = λ w t rest st. rw (st.1) (omega arith);
}
rule_lawful left false kind place = record {
  found = λ w t rest e. absurd cc;
  only = λ w t rest st. absurd (cc (st.0));
  first = λ t f e. (refl, cc);
  refused = λ t f b. cc;
  shorter = λ w t rest st. rw (st.1) (omega arith);
}

pub seq_lawful : {T K A B : Type 0} {left : T → ℕ} {s : Syntax T K A} {k : A → Syntax T K B} → Lawful left s → ((a : A) → Lawful left (k a)) → Lawful left (seq s k)
unfolding seq bind
seq_lawful {left} {s} {k} ls lk = record {
  found = λ v t rest e. let b = bind_good (s.read t) (λ a mid. (k a).read mid) (v, rest) e in (b.0, b.1, ls.found b.0 t b.1 b.2, (lk b.0).found v b.1 rest b.3);
  only = λ v t rest st. rw (ls.only st.0 t st.1 st.2) ((lk st.0).only v st.1 rest st.3);
  first = λ t f e. elim (bind_bad (s.read t) (λ a mid. (k a).read mid) f e) [ inl x ↦ inl (ls.first t f x) | inr x ↦ inr (x.0, x.1, ls.found x.0 t x.1 x.2, (lk x.0).first x.1 f x.3) ];
  refused = λ t f b. elim b [ inl x ↦ rw (ls.refused t f x) refl | inr x ↦ rw (ls.only x.0 t x.1 x.2) ((lk x.0).refused x.1 f x.3) ];
  shorter = λ v t rest st. omega (arith, ls.shorter st.0 t st.1 st.2, (lk st.0).shorter v st.1 rest st.3);
}

-- where the first takes something, the whole does
pub seq_takes : {T K A B : Type 0} {left : T → ℕ} {s : Syntax T K A} {k : A → Syntax T K B} → Takes left s → ((a : A) → Lawful left (k a)) → Takes left (seq s k)
unfolding seq
seq_takes {left} {s} {k} ts lk = record { less = λ v t rest st. omega (arith, ts.less st.0 t st.1 st.2, (lk st.0).shorter v st.1 rest st.3) }

-- where what follows takes something, the whole does
pub seq_takes_later : {T K A B : Type 0} {left : T → ℕ} {s : Syntax T K A} {k : A → Syntax T K B} → Lawful left s → ((a : A) → Takes left (k a)) → Takes left (seq s k)
unfolding seq
seq_takes_later {left} {s} {k} ls tk = record { less = λ v t rest st. omega (arith, ls.shorter st.0 t st.1 st.2, (tk st.0).less v st.1 rest st.3) }

pub choose_lawful : {T K V : Type 0} {left : T → ℕ} {s u : Syntax T K V} (b : Bool) → Lawful left s → Lawful left u → Lawful left (choose b s u)
unfolding choose
choose_lawful true ls lu = record {
  found = λ v t rest e. inl (refl, ls.found v t rest e);
  only = λ v t rest st. elim st [ inl x ↦ ls.only v t rest x.1 | inr x ↦ absurd (cc (x.0)) ];
  first = λ t f e. inl (refl, ls.first t f e);
  refused = λ t f b. elim b [ inl x ↦ ls.refused t f x.1 | inr x ↦ absurd (cc (x.0)) ];
  shorter = λ v t rest st. elim st [ inl x ↦ ls.shorter v t rest x.1 | inr x ↦ absurd (cc (x.0)) ];
}
choose_lawful false ls lu = record {
  found = λ v t rest e. inr (refl, lu.found v t rest e);
  only = λ v t rest st. elim st [ inl x ↦ absurd (cc (x.0)) | inr x ↦ lu.only v t rest x.1 ];
  first = λ t f e. inr (refl, lu.first t f e);
  refused = λ t f b. elim b [ inl x ↦ absurd (cc (x.0)) | inr x ↦ lu.refused t f x.1 ];
  shorter = λ v t rest st. elim st [ inl x ↦ absurd (cc (x.0)) | inr x ↦ lu.shorter v t rest x.1 ];
}

-- ---- rounds

pub choose_takes : {T K V : Type 0} {left : T → ℕ} {s u : Syntax T K V} (b : Bool) → Takes left s → Takes left u → Takes left (choose b s u)
unfolding choose
choose_takes b ts tu = record { less = λ v t rest st. elim st [ inl x ↦ ts.less v t rest x.1 | inr x ↦ tu.less v t rest x.1 ] }

-- a round with another behind it takes something
abbrev pub Onward : {T K S : Type 0} → (T → ℕ) → (S → Syntax T K (Bool × S)) → Type 0
Onward {T} {K} {S} left round = (s m : S) (t mid : T) → (round s).Stands (true, m) t mid → left mid < left t

module _ {T K S : Type 0} (left : T → ℕ) (kind : K) (round : S → Syntax T K (Bool × S)) (l : (s : S) → Lawful left (round s)) (h : Onward left round) where
  abbrev pub next : ℕ → Bool × S → T → Result (S × T) (K × ℕ)
  next n x mid = cond x.0 (rounds kind round n x.1 mid) (Ok (x.1, mid))

  found_round : (n : ℕ) (s z : S) (t rest : T) → ((m : S) (mid : T) → rounds kind round n m mid ≡ good (z, rest) → Rounds round m z mid rest) → (a : Bool × S) (mid : T) → (round s).read t ≡ good (a, mid) → next n a mid ≡ good (z, rest) → Rounds round s z t rest
  found_round n s z t rest ih (true, m) mid at g = more ((l s).found (true, m) t mid at) (ih m mid g)
  found_round n s z t rest ih (false, m) mid at g = last (subst (λ (y : S × T). (round s).Stands (false, y.0) t y.1) (good_is (m, mid) (z, rest) g) ((l s).found (false, m) t mid at))

  found_n : (n : ℕ) (s z : S) (t rest : T) → rounds kind round n s t ≡ good (z, rest) → Rounds round s z t rest
  unfolding rounds
  found_n zero s z t rest e = absurd cc
  found_n (suc n) s z t rest e = let b = bind_good ((round s).read t) (next n) (z, rest) e in found_round n s z t rest (λ m mid g. found_n n m z mid rest g) b.0 b.1 b.2 b.3

  only_n : (n : ℕ) (s z : S) (t rest : T) → Rounds round s z t rest → left t < n → rounds kind round n s t ≡ good (z, rest)
  unfolding rounds bind
  only_n zero s z t rest r lt = absurd (omega arith)
  only_n (suc n) s z t rest (last st) lt = rw ((l s).only (false, z) t rest st) refl
  only_n (suc n) s z t rest (more {m = m} {mid = mid} st r) lt = let d = h s m t mid st in rw ((l s).only (true, m) t mid st) (only_n n m z mid rest r (omega arith))

  first_round : (n : ℕ) (s : S) (t : T) (f : K × ℕ) → left t < suc n → ((m : S) (mid : T) → rounds kind round n m mid ≡ bad f → left mid < n → Breaks round m mid f) → (a : Bool × S) (mid : T) → (round s).read t ≡ good (a, mid) → next n a mid ≡ bad f → Breaks round s t f
  first_round n s t f lt ih (true, m) mid at g = let st = (l s).found (true, m) t mid at in let d = h s m t mid st in later st (ih m mid g (omega arith))
  first_round n s t f lt ih (false, m) mid at g = absurd cc

  first_n : (n : ℕ) (s : S) (t : T) (f : K × ℕ) → rounds kind round n s t ≡ bad f → left t < n → Breaks round s t f
  unfolding rounds
  first_n zero s t f e lt = absurd (omega arith)
  first_n (suc n) s t f e lt = elim (bind_bad ((round s).read t) (next n) f e) [ inl x ↦ now ((l s).first t f x) | inr x ↦ first_round n s t f lt (λ m mid g d. first_n n m mid f g d) x.0 x.1 x.2 x.3 ]

  refused_n : (n : ℕ) (s : S) (t : T) (f : K × ℕ) → Breaks round s t f → left t < n → rounds kind round n s t ≡ bad f
  unfolding rounds bind
  refused_n zero s t f b lt = absurd (omega arith)
  refused_n (suc n) s t f (now b) lt = rw ((l s).refused t f b) refl
  refused_n (suc n) s t f (later {m = m} {mid = mid} st b) lt = let d = h s m t mid st in rw ((l s).only (true, m) t mid st) (refused_n n m mid f b (omega arith))

  fewer : (s z : S) (t rest : T) → Rounds round s z t rest → left rest ≤ left t
  fewer s z t rest (last st) = (l s).shorter (false, z) t rest st
  fewer s z t rest (more {m = m} {mid = mid} st r) = omega (arith, h s m t mid st, fewer m z mid rest r)

  pub repeated_lawful : (s : S) → Lawful left (repeated left kind round s)
  unfolding repeated
  repeated_lawful s = record {
    found = λ v t rest e. found_n (suc (left t)) s v t rest e;
    only = λ v t rest st. only_n (suc (left t)) s v t rest st (omega arith);
    first = λ t f e. first_n (suc (left t)) s t f e (omega arith);
    refused = λ t f b. refused_n (suc (left t)) s t f b (omega arith);
    shorter = λ v t rest st. omega (arith, fewer s v t rest st);
  }

  strictly : ((s : S) → Takes left (round s)) → (s z : S) (t rest : T) → Rounds round s z t rest → left rest < left t
  strictly ts s z t rest (last st) = (ts s).less (false, z) t rest st
  strictly ts s z t rest (more {m = m} {mid = mid} st r) = omega (arith, (ts s).less (true, m) t mid st, strictly ts m z mid rest r)

  pub repeated_takes : ((s : S) → Takes left (round s)) → (s : S) → Takes left (repeated left kind round s)
  unfolding repeated
  repeated_takes ts s = record { less = λ v t rest st. strictly ts s v t rest st }

  enough_next : (n m : ℕ) (s : S) (t : T) → ((q : S) (mid : T) → left mid < left t → rounds kind round n q mid ≡ rounds kind round m q mid) → (x : Bool × S) (mid : T) → (round s).read t ≡ good (x, mid) → next n x mid ≡ next m x mid
  enough_next n m s t ih (true, q) mid e = ih q mid (h s q t mid ((l s).found (true, q) t mid e))
  enough_next n m s t ih (false, q) mid e = refl

  enough : (n m : ℕ) (s : S) (t : T) → left t < n → left t < m → rounds kind round n s t ≡ rounds kind round m s t
  unfolding rounds
  enough zero m s t ln lm = absurd (omega arith)
  enough (suc n) zero s t ln lm = absurd (omega arith)
  enough (suc n) (suc m) s t ln lm = same_bind ((round s).read t) (next n) (next m) (enough_next n m s t (λ q mid d. enough n m q mid (omega arith) (omega arith)))

  unrolled_next : (n : ℕ) (s : S) (t : T) → left t ≡ n → (x : Bool × S) (mid : T) → (round s).read t ≡ good (x, mid) → next n x mid ≡ next (suc (left mid)) x mid
  unrolled_next n s t is (true, q) mid e = let d = h s q t mid ((l s).found (true, q) t mid e) in enough n (suc (left mid)) q mid (omega arith) (omega arith)
  unrolled_next n s t is (false, q) mid e = refl

  -- what a program's loop goes by
  pub unrolled : (s : S) (t : T) → (repeated left kind round s).read t ≡ bind ((round s).read t) (λ x mid. cond x.0 ((repeated left kind round x.1).read mid) (good (x.1, mid)))
  unfolding rounds repeated
  unrolled s t = same_bind ((round s).read t) (next (left t)) (λ x mid. next (suc (left mid)) x mid) (unrolled_next (left t) s t refl)

  pub round_err : (s : S) (t : T) (f : K × ℕ) → (round s).read t ≡ bad f → (repeated left kind round s).read t ≡ bad f
  unfolding bind
  round_err s t f at = unrolled s t ∙ rw at refl

  pub round_more : (s m : S) (t mid : T) → (round s).read t ≡ good ((true, m), mid) → (repeated left kind round s).read t ≡ (repeated left kind round m).read mid
  unfolding bind
  round_more s m t mid at = unrolled s t ∙ rw at refl

  pub round_last : (s m : S) (t mid : T) → (round s).read t ≡ good ((false, m), mid) → (repeated left kind round s).read t ≡ good (m, mid)
  unfolding bind
  round_last s m t mid at = unrolled s t ∙ rw at refl

-- lawful, and it takes something
pub record Strict {T K V : Type 0} (left : T → ℕ) (s : Syntax T K V) : Type 0 where
  pub lawful : Lawful left s
  pub takes : Takes left s

pub seq_strict : {T K A B : Type 0} {left : T → ℕ} {s : Syntax T K A} {k : A → Syntax T K B} → Strict left s → ((a : A) → Lawful left (k a)) → Strict left (seq s k)
seq_strict ss lk = record { lawful = seq_lawful ss.lawful lk; takes = seq_takes ss.takes lk }

pub seq_strict_later : {T K A B : Type 0} {left : T → ℕ} {s : Syntax T K A} {k : A → Syntax T K B} → Lawful left s → ((a : A) → Strict left (k a)) → Strict left (seq s k)
seq_strict_later ls sk = record { lawful = seq_lawful ls (λ a. (sk a).lawful); takes = seq_takes_later ls (λ a. (sk a).takes) }

pub choose_strict : {T K V : Type 0} {left : T → ℕ} {s u : Syntax T K V} (b : Bool) → Strict left s → Strict left u → Strict left (choose b s u)
choose_strict b ss su = record { lawful = choose_lawful b ss.lawful su.lawful; takes = choose_takes b ss.takes su.takes }

pub repeated_strict : {T K S : Type 0} (left : T → ℕ) (kind : K) (round : S → Syntax T K (Bool × S)) → ((s : S) → Strict left (round s)) → (s : S) → Strict left (repeated left kind round s)
repeated_strict left kind round h s =
    let onward : Onward left round = λ s m t mid st. (h s).takes.less (true, m) t mid st in
    record { lawful = repeated_lawful left kind round (λ s. (h s).lawful) onward s; takes = repeated_takes left kind round (λ s. (h s).lawful) onward (λ s. (h s).takes) s }

pub onward : {T K S : Type 0} {left : T → ℕ} {round : S → Syntax T K (Bool × S)} → ((s : S) → Strict left (round s)) → Onward left round
onward h = λ s m t mid st. (h s).takes.less (true, m) t mid st

renamed_good : {T K L V : Type 0} (f : K → L) (r : Result (V × T) (K × ℕ)) (x : V × T) → renamed_read f r ≡ good x → r ≡ good x
renamed_good f (Ok y) x e = cc
renamed_good f (Err d) x e = absurd cc

renamed_bad : {T K L V : Type 0} (f : K → L) (r : Result (V × T) (K × ℕ)) (g : L × ℕ) → renamed_read f r ≡ bad g → (e : K × ℕ) × (r ≡ bad e) × (g ≡ (f e.0, e.1))
renamed_bad f (Ok y) g e = absurd cc
renamed_bad f (Err d) g e = (d, refl, cc)

pub renamed_lawful : {T K L V : Type 0} {left : T → ℕ} {s : Syntax T K V} (f : K → L) → Lawful left s → Lawful left (renamed f s)
unfolding renamed
renamed_lawful {s = s} f ls = record {
  found = λ v t rest e. ls.found v t rest (renamed_good f (s.read t) (v, rest) e);
  only = λ v t rest st. rw (ls.only v t rest st) refl;
  first = λ t g e. let b = renamed_bad f (s.read t) g e in (b.0, ls.first t b.0 b.1, b.2);
  refused = λ t g b. rw (ls.refused t b.0 b.1, b.2) refl;
  shorter = ls.shorter;
}
