-- What holds of what a syntax among units reads.
use Rattle.std.proofs.Common.{◌≡◌, ℕ, Bool, true, false, List, [], ◌∷◌, Option, Some, None, Result, Ok, Err, refl, subst}
use Rattle.m2v_bits.specs.Syntax.{bind, seq, here, rule, done, choose}
use Rattle.m2v_bits.proofs.SyntaxLaws.{good}
use Rattle.m2v_model.specs.declared.fault.FaultKind.{FaultKind}
use Rattle.m2v_model.specs.Units.{Units, unit_at, unit_bits, body, of_body, inside}
use Rattle.m2v_model.specs.Faults.{InUnit}
use Rattle.m2v_model.specs.Looking.{refuse}
use Rattle.m2v_model.specs.Streams.{Among, Part, id_at, extension_in, extension_behind, onward, final}

-- a fact on the value that was read, with the units behind it
abbrev pub OfRead : {V : Type 0} → (V → Units → Type 0) → Result (V × Units) (FaultKind × ℕ) → Type 0
OfRead P (Ok x) = P x.0 x.1
OfRead P (Err f) = Unit {0}

pub read_at : {V : Type 0} (P : V → Units → Type 0) (r : Result (V × Units) (FaultKind × ℕ)) (v : V) (mid : Units) → OfRead P r → r ≡ good (v, mid) → P v mid
read_at P r v mid h e = subst (OfRead P) e h

-- what is read of these units has a fact
pub record Holding {V : Type 0} (P : V → Units → Type 0) (s : Among V) (t : Units) : Type 0 where
  pub is : OfRead P (s.read t)

bind_holds : {A B : Type 0} (P : A → Units → Type 0) (Q : B → Units → Type 0) (k : A → Among B) (r : Result (A × Units) (FaultKind × ℕ))
    → OfRead P r → ((a : A) (mid : Units) → P a mid → Holding Q (k a) mid) → OfRead Q (bind r (λ a mid. (k a).read mid))
unfolding bind
bind_holds P Q k (Ok x) h step = (step x.0 x.1 h).is
bind_holds P Q k (Err f) h step = tt

pub seq_holds : {A B : Type 0} {Q : B → Units → Type 0} {s : Among A} {k : A → Among B} {t : Units} (P : A → Units → Type 0)
    → Holding P s t → ((a : A) (mid : Units) → P a mid → Holding Q (k a) mid) → Holding Q (seq s k) t
unfolding seq
seq_holds {Q = Q} {s = s} {k = k} {t = t} P h step = record { is = bind_holds P Q k (s.read t) h.is step }

rule_read : {B : Type 0} (Q : B → Units → Type 0) (k : Unit {0} → Among B) (holds : Bool) (kind : FaultKind) (place : ℕ) (t : Units)
    → (holds ≡ true → Holding Q (k tt) t) → OfRead Q ((seq (rule holds kind place) k).read t)
unfolding seq rule bind
rule_read Q k true kind place t h = (h refl).is
rule_read Q k false kind place t h = tt

-- a rule, and what is read where it holds
pub rule_then : {B : Type 0} {Q : B → Units → Type 0} {t : Units} (k : Unit {0} → Among B) (holds : Bool) (kind : FaultKind) (place : ℕ)
    → (holds ≡ true → Holding Q (k tt) t) → Holding Q (seq (rule holds kind place) k) t
rule_then {Q = Q} {t = t} k holds kind place h = record { is = rule_read Q k holds kind place t h }

body_then : {A B : Type 0} (Q : B → Units → Type 0) (k : A → Among B) (t : Units) (r : Result (A × List Bool) (FaultKind × ℕ))
    → ((x : A) (end : List Bool) → r ≡ good (x, end) → Holding Q (k x) t) → OfRead Q (bind (of_body t r) (λ a mid. (k a).read mid))
unfolding bind
body_then Q k t (Ok x) h = (h x.0 x.1 refl).is
body_then Q k t (Err f) h = tt

-- what stands in a unit, and what is read then
pub inside_then : {A B : Type 0} {Q : B → Units → Type 0} {t : Units} (k : A → Among B) (u : List ℕ) (s : InUnit A)
    → ((x : A) (end : List Bool) → s.read (body u) ≡ good (x, end) → Holding Q (k x) t) → Holding Q (seq (inside u s) k) t
unfolding seq inside
inside_then {Q = Q} {t = t} k u s h = record { is = body_then Q k t (s.read (body u)) h }

body_holds : {A : Type 0} (t : Units) (r : Result (A × List Bool) (FaultKind × ℕ)) (Q : A → Units → Type 0)
    → ((x : A) (end : List Bool) → r ≡ good (x, end) → Q x t) → OfRead Q (of_body t r)
body_holds t (Ok x) Q h = h x.0 x.1 refl
body_holds t (Err f) Q h = tt

inside_holds : {A : Type 0} {Q : A → Units → Type 0} {t : Units} (u : List ℕ) (s : InUnit A)
    → ((x : A) (end : List Bool) → s.read (body u) ≡ good (x, end) → Q x t) → Holding Q (inside u s) t
unfolding inside
inside_holds {Q = Q} {t = t} u s h = record { is = body_holds t (s.read (body u)) Q h }

choose_read : {V : Type 0} (Q : V → Units → Type 0) (s u : Among V) (t : Units) (b : Bool) → (b ≡ true → Holding Q s t) → (b ≡ false → Holding Q u t) → OfRead Q ((choose b s u).read t)
unfolding choose
choose_read Q s u t true hs hu = (hs refl).is
choose_read Q s u t false hs hu = (hu refl).is

pub choose_holds : {V : Type 0} {Q : V → Units → Type 0} {s u : Among V} {t : Units} (b : Bool) → (b ≡ true → Holding Q s t) → (b ≡ false → Holding Q u t) → Holding Q (choose b s u) t
choose_holds {Q = Q} {s = s} {u = u} {t = t} b hs hu = record { is = choose_read Q s u t b hs hu }

pub refuse_holds : {V : Type 0} {Q : V → Units → Type 0} {t : Units} (kind : FaultKind) (place : ℕ) → Holding Q (refuse kind place) t
unfolding refuse
refuse_holds kind place = record { is = tt }

pub done_holds : {V : Type 0} {Q : V → Units → Type 0} {t : Units} (v : V) → Q v t → Holding Q (done v) t
unfolding done
done_holds v h = record { is = h }

-- what an extension is read by
pub record FromUnit {V : Type 0} (s : InUnit V) (v : V) : Type 0 where
  pub unit : List ℕ
  pub end : List Bool
  pub is : s.read (body unit) ≡ good (v, end)

extension_holds : {V : Type 0} {Q : V → Units → Type 0} (own : ℕ) (v : Option (List ℕ)) (start : ℕ) (s : InUnit V) (t : Units) → ((x : V) → FromUnit s x → Q x t) → Holding Q (extension_behind own v start s) t
unfolding extension_behind extension_in id_at
extension_holds own None start s t h = refuse_holds _ _
extension_holds own (Some u) start s t h =
    choose_holds _
    (λ on. inside_then _ _ _ (λ id end read. rule_then _ _ _ _ (λ is. inside_holds _ _ (λ x rest got. h x (record { unit = u; end = rest; is = got })))))
    (λ off. refuse_holds _ _)

extended_read : {V W : Type 0} (P : Units → Type 0) (Q : W → Units → Type 0) (k : V → Among W) (own : ℕ) (s : InUnit V) (t : Units) → P t → ((u : List ℕ) (us : Units) → P (u ∷ us) → P us)
    → ((x : V) (mid : Units) → P mid → FromUnit s x → Holding Q (k x) mid) → OfRead Q ((seq (here unit_bits) (λ next. seq unit_at (λ v. seq (extension_behind own v next s) k))).read t)
unfolding seq here unit_at bind extension_behind refuse
extended_read P Q k own s [] p tail h = tt
extended_read P Q k own s (u ∷ us) p tail h =
    (seq_holds {Q = Q} {k = k} (λ x mid. P mid × FromUnit s x)
    (extension_holds own (Some u) (unit_bits (u ∷ us)) s us (λ x f. (tail u us p, f)))
    (λ x mid g. h x mid g.0 g.1)).is

-- the extension behind a header, and what is read then
pub extended_then : {V W : Type 0} {Q : W → Units → Type 0} {t : Units} (P : Units → Type 0) (k : V → Among W) (own : ℕ) (s : InUnit V) → P t → ((u : List ℕ) (us : Units) → P (u ∷ us) → P us)
    → ((x : V) (mid : Units) → P mid → FromUnit s x → Holding Q (k x) mid) → Holding Q (seq (here unit_bits) (λ next. seq unit_at (λ v. seq (extension_behind own v next s) k))) t
extended_then {Q = Q} {t = t} P k own s p tail h = record { is = extended_read P Q k own s t p tail h }

pub onward_holds : {Q : Bool × Part → Units → Type 0} {s : Among Part} {t : Units} → Holding (λ p mid. Q (true, p) mid) s t → Holding Q (onward s) t
unfolding onward
onward_holds {Q = Q} h = seq_holds (λ p mid. Q (true, p) mid) h (λ p mid q. done_holds _ q)

pub final_holds : {Q : Bool × Part → Units → Type 0} {s : Among Part} {t : Units} → Holding (λ p mid. Q (false, p) mid) s t → Holding Q (final s) t
unfolding final
final_holds {Q = Q} h = seq_holds (λ p mid. Q (false, p) mid) h (λ p mid q. done_holds _ q)
