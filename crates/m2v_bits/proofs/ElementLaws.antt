-- The elements are lawful, and what spells them and texts made of them.
use Rattle.std.proofs.Common.{◌≡◌, Bool, true, false, ℕ, List, [], ◌∷◌, ◌++◌, length, refl, subst, arith}
use Rattle.std.specs.Prelude.{nat_eq}
use Rattle.std.proofs.lemmas.List.{append-nil}
use Rattle.m2v_bits.specs.Bits.{bits_of}
use Rattle.m2v_bits.specs.Syntax.{Syntax, done, seq, rule, Spells}
use Rattle.m2v_bits.specs.Elements.{flag_at}
use Rattle.m2v_bits.proofs.SyntaxLaws.{Strict, done_lawful, seq_strict}
use Rattle.m2v_bits.proofs.LeafLaws.{bits_strict, bits_spells, done_spells, seq_spells}

pub flag_strict : {K : Type 0} (cut : K) → Strict length (flag_at cut)
unfolding flag_at
flag_strict cut = seq_strict (bits_strict cut 1 (omega arith)) (λ bit. done_lawful length _)

-- the same text, written otherwise
pub same_spells : {K V : Type 0} {s : Syntax (List Bool) K V} {v : V} {x y : List Bool} → x ≡ y → Spells s v x → Spells s v y
same_spells {K} {V} {s} {v} e h = subst (λ (text : List Bool). Spells s v text) e h

-- a text, and nothing more
pub whole_spells : {K V : Type 0} {s : Syntax (List Bool) K V} {v : V} {x : List Bool} → Spells s v (x ++ []) → Spells s v x
whole_spells {x} h = same_spells (append-nil x) h

-- an element, and what follows it
pub then_spells : {K A B : Type 0} {s : Syntax (List Bool) K A} (k : A → Syntax (List Bool) K B) {a : A} {b : B} {x y : List Bool} → Spells s a x → Spells (k a) b y → Spells (seq s k) b (x ++ y)
then_spells k {a = a} {b = b} {x = x} {y = y} p q = seq_spells k a b x y p q

-- an element, and nothing more
pub last_spells : {K A V : Type 0} {s : Syntax (List Bool) K A} (a : A) (f : A → V) (text : List Bool) → Spells s a text → Spells (seq s (λ b. done (f b))) (f a) text
last_spells a f text h = whole_spells (seq_spells (λ b. done (f b)) a (f a) text [] h (done_spells (f a)))

-- a rule that holds takes nothing
holding : {K : Type 0} (b : Bool) (kind : K) (at : ℕ) → b ≡ true → Spells (rule b kind at) tt []
unfolding rule
holding b kind at holds = record { stands = λ rest. (holds, refl) }

-- an element, and a rule that holds of it
pub held_spells : {K A : Type 0} {s : Syntax (List Bool) K A} (a : A) (test : A → Bool) (kind : K) (at : ℕ) (text : List Bool) → test a ≡ true → Spells s a text → Spells (seq s (λ b. rule (test b) kind at)) tt text
held_spells a test kind at text holds h = whole_spells (seq_spells (λ b. rule (test b) kind at) a tt text [] h (holding (test a) kind at holds))

pub bit_false : bits_of 1 0 ≡ false ∷ []
unfolding bits_of
bit_false = refl

pub bit_true : bits_of 1 1 ≡ true ∷ []
unfolding bits_of
bit_true = refl

pub flag_spells : {K : Type 0} (cut : K) (b : Bool) → Spells (flag_at cut) b (b ∷ [])
unfolding flag_at
flag_spells cut true = same_spells bit_true (last_spells 1 (λ v. nat_eq v 1) (bits_of 1 1) (bits_spells cut 1 1 (omega arith)))
flag_spells cut false = same_spells bit_false (last_spells 0 (λ v. nat_eq v 1) (bits_of 1 0) (bits_spells cut 1 0 (omega arith)))
