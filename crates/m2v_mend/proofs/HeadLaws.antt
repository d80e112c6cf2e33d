-- The last sequence header, with one unit more.
use Rattle.std.proofs.Common.{◌≡◌, ◌⊎◌, ℕ, ◌+◌, ◌-◌, ◌<◌, ◌≤◌, Bool, true, false, List, [], ◌∷◌, ◌++◌, length, get_or, take, drop, replicate, inl, inr, refl, sym, ap, subst, ◌∙◌, append_assoc, append-nil, arith}
use Rattle.std.specs.Prelude.{nat_le, ◌&&◌, ◌||◌, not, if◌then◌else◌}
use Rattle.std.proofs.lemmas.Bool.{cases_Bool, both_ways, leb-true, le-leb, eq-eqb}
use Rattle.std.proofs.lemmas.List.{length-append, length-drop, length-take, length-replicate, drop-drop, drop-append-le, drop_at, take_at, take-append-le, take_all, drop_all}
use Rattle.std.proofs.Math.Bool.{and-false, or-false, or-true, or_assoc, or_comm}
use Rattle.m2v_model.specs.Units.{Units, joined, AreUnits}
use Rattle.m2v_model.specs.Streams.{value_of}
use Rattle.m2v_model.proofs.CutLaws.{cut_units}
use Rattle.m2v_dec_unit.specs.Texts.{text_of, IsZeroEnded}
use Rattle.m2v_dec_unit.proofs.Cuts.{ended_next, none_left}
use Rattle.m2v_law_group.specs.Groups.{is_sequence, has_sequence, from_last_sequence}
use Rattle.m2v_law_group.proofs.Lists.{or_parts}
use Rattle.m2v_law_seam.specs.Spans.{units_of, is_extension, is_matrices, has_matrices, extensions_first, behind_extensions, most_head}
use Rattle.m2v_law_seam.proofs.Pieced.{joined_one}
use Rattle.m2v_mend.specs.declared.head.Heads.{Heads}
use Rattle.m2v_mend.specs.Editing.{IsWhole, IsFirstLength}
use Rattle.m2v_mend.specs.Heading.{is_empty, is_long, IsHeader, KnowsHeader, IsHeads, IsOnce, IsAppended, IsBehind, IsLeftOut}
use Rattle.m2v_mend.specs.Telling.{more_sequences}
use Rattle.m2v_mend.proofs.EditLaws.{none_in_zeros, where_unit, are_units, first_least, within_get}

-- ---- units with one more

has_snoc : (us : Units) (u : List ℕ) → has_sequence (us ++ u ∷ []) ≡ (has_sequence us || is_sequence u)
unfolding has_sequence
has_snoc [] u = or-false (is_sequence u)
has_snoc (v ∷ us) u = ap (λ (b : Bool). is_sequence v || b) (has_snoc us u) ∙ sym (or_assoc (is_sequence v) (has_sequence us) (is_sequence u))

none_last : from_last_sequence [] ≡ []
unfolding from_last_sequence
none_last = refl

one_last : (u : List ℕ) (b : Bool) → is_sequence u ≡ b → from_last_sequence (u ∷ []) ≡ (if b then u ∷ [] else [])
unfolding from_last_sequence has_sequence
one_last u true e = rw e refl
one_last u false e = rw e refl

last_step : (v : List ℕ) (us : Units) (b : Bool) → (is_sequence v && not (has_sequence us)) ≡ b → from_last_sequence (v ∷ us) ≡ (if b then v ∷ us else from_last_sequence us)
unfolding from_last_sequence
last_step v us b e = rw e refl

-- a sequence header is the last one
pub last_header : (us : Units) (u : List ℕ) → is_sequence u ≡ true → from_last_sequence (us ++ u ∷ []) ≡ u ∷ []
last_header [] u on = one_last u true on
last_header (v ∷ us) u on =
    let more : has_sequence (us ++ u ∷ []) ≡ true = has_snoc us u ∙ ap (λ (b : Bool). has_sequence us || b) on ∙ or-true (has_sequence us) in
    last_step v (us ++ u ∷ []) false (ap (λ (b : Bool). is_sequence v && not b) more ∙ and-false (is_sequence v)) ∙ last_header us u on

-- another unit stands behind it, where there is one
abbrev with_one : Units → List ℕ → Units
with_one [] u = []
with_one (v ∷ vs) u = v ∷ (vs ++ u ∷ [])

with_step : (v : List ℕ) (us : Units) (u : List ℕ) (b : Bool) → from_last_sequence (us ++ u ∷ []) ≡ with_one (from_last_sequence us) u → (if b then v ∷ (us ++ u ∷ []) else from_last_sequence (us ++ u ∷ [])) ≡ with_one (if b then v ∷ us else from_last_sequence us) u
with_step v us u true ih = refl
with_step v us u false ih = ih

pub last_other : (us : Units) (u : List ℕ) → is_sequence u ≡ false → from_last_sequence (us ++ u ∷ []) ≡ with_one (from_last_sequence us) u
last_other [] u off = one_last u false off ∙ ap (λ (l : Units). with_one l u) (sym none_last)
last_other (v ∷ us) u off =
    let same : has_sequence (us ++ u ∷ []) ≡ has_sequence us = has_snoc us u ∙ ap (λ (b : Bool). has_sequence us || b) off ∙ or-false (has_sequence us) in
    let b = is_sequence v && not (has_sequence us) in
    last_step v (us ++ u ∷ []) b (ap (λ (x : Bool). is_sequence v && not x) same) ∙ with_step v us u b (last_other us u off) ∙ ap (λ (l : Units). with_one l u) (sym (last_step v us b refl))

pub matrices_append : (us vs : Units) → has_matrices (us ++ vs) ≡ (has_matrices us || has_matrices vs)
unfolding has_matrices
matrices_append [] vs = refl
matrices_append (u ∷ us) vs = ap (λ (b : Bool). is_matrices u || b) (matrices_append us vs) ∙ sym (or_assoc (is_matrices u) (has_matrices us) (has_matrices vs))

matrices_snoc : (us : Units) (u : List ℕ) → has_matrices (us ++ u ∷ []) ≡ (has_matrices us || is_matrices u)
unfolding has_matrices
matrices_snoc us u = matrices_append us (u ∷ []) ∙ ap (λ (b : Bool). has_matrices us || b) (or-false (is_matrices u))

-- an extension right behind others
record Joins (us : Units) (u : List ℕ) : Type 0 where
  first : extensions_first (us ++ u ∷ []) ≡ extensions_first us ++ u ∷ []
  behind : behind_extensions (us ++ u ∷ []) ≡ []

-- a unit that isn't
record Stands (us : Units) (u : List ℕ) : Type 0 where
  first : extensions_first (us ++ u ∷ []) ≡ extensions_first us
  behind : behind_extensions (us ++ u ∷ []) ≡ behind_extensions us ++ u ∷ []

pub no_extensions : (extensions_first [] ≡ []) × (behind_extensions [] ≡ []) × (has_matrices [] ≡ false)
unfolding extensions_first behind_extensions has_matrices
no_extensions = (refl, refl, refl)

pub extensions_step : (v : List ℕ) (us : Units) (b : Bool) → is_extension v ≡ b → extensions_first (v ∷ us) ≡ (if b then v ∷ extensions_first us else [])
unfolding extensions_first
extensions_step v us b e = rw e refl

behind_step : (v : List ℕ) (us : Units) (b : Bool) → is_extension v ≡ b → behind_extensions (v ∷ us) ≡ (if b then behind_extensions us else v ∷ us)
unfolding behind_extensions
behind_step v us b e = rw e refl

joins_step : (v : List ℕ) (us : Units) (u : List ℕ) (b : Bool) → is_extension v ≡ b → is_empty (behind_extensions (v ∷ us)) ≡ true → (is_empty (behind_extensions us) ≡ true → Joins us u) → Joins (v ∷ us) u
joins_step v us u true x e ih =
    let i = ih (sym (ap is_empty (behind_step v us true x)) ∙ e) in
    record {
      first = extensions_step v (us ++ u ∷ []) true x ∙ ap (λ (l : Units). v ∷ l) i.first ∙ sym (ap (λ (l : Units). l ++ u ∷ []) (extensions_step v us true x));
      behind = behind_step v (us ++ u ∷ []) true x ∙ i.behind;
    }
joins_step v us u false x e ih = absurd (both_ways (is_empty (behind_extensions (v ∷ us))) (ap is_empty (behind_step v us false x)) e)

joins : (us : Units) (u : List ℕ) → is_empty (behind_extensions us) ≡ true → is_extension u ≡ true → Joins us u
joins [] u e on = record {
  first = extensions_step u [] true on ∙ ap (λ (l : Units). u ∷ l) no_extensions.0 ∙ sym (ap (λ (l : Units). l ++ u ∷ []) no_extensions.0);
  behind = behind_step u [] true on ∙ no_extensions.1;
}
joins (v ∷ us) u e on = joins_step v us u (is_extension v) refl e (λ h. joins us u h on)

ends_within : (v : List ℕ) (us : Units) (u : List ℕ) → is_extension v ≡ true → (is_empty (behind_extensions (v ∷ us)) ≡ false) ⊎ (is_extension u ≡ false) → (is_empty (behind_extensions us) ≡ false) ⊎ (is_extension u ≡ false)
ends_within v us u x (inl e) = inl (sym (ap is_empty (behind_step v us true x)) ∙ e)
ends_within v us u x (inr off) = inr off

stands_step : (v : List ℕ) (us : Units) (u : List ℕ) (b : Bool) → is_extension v ≡ b → (is_empty (behind_extensions (v ∷ us)) ≡ false) ⊎ (is_extension u ≡ false)
    → ((is_empty (behind_extensions us) ≡ false) ⊎ (is_extension u ≡ false) → Stands us u) → Stands (v ∷ us) u
stands_step v us u true x h ih =
    let i = ih (ends_within v us u x h) in
    record {
      first = extensions_step v (us ++ u ∷ []) true x ∙ ap (λ (l : Units). v ∷ l) i.first ∙ sym (extensions_step v us true x);
      behind = behind_step v (us ++ u ∷ []) true x ∙ i.behind ∙ sym (ap (λ (l : Units). l ++ u ∷ []) (behind_step v us true x));
    }
stands_step v us u false x h ih = record {
  first = extensions_step v (us ++ u ∷ []) false x ∙ sym (extensions_step v us false x);
  behind = behind_step v (us ++ u ∷ []) false x ∙ sym (ap (λ (l : Units). l ++ u ∷ []) (behind_step v us false x));
}

stands : (us : Units) (u : List ℕ) → (is_empty (behind_extensions us) ≡ false) ⊎ (is_extension u ≡ false) → Stands us u
stands [] u (inl x) = absurd (both_ways (is_empty (behind_extensions [])) x (ap is_empty no_extensions.1))
stands [] u (inr off) = record {
  first = extensions_step u [] false off ∙ sym no_extensions.0;
  behind = behind_step u [] false off ∙ sym (ap (λ (l : Units). l ++ u ∷ []) no_extensions.1);
}
stands (v ∷ us) u h = stands_step v us u (is_extension v) refl h (stands us u)

snoc_empty : (us : Units) (u : List ℕ) → is_empty (us ++ u ∷ []) ≡ false
snoc_empty [] u = refl
snoc_empty (v ∷ us) u = refl

-- ---- what is known

pub heads_new : (h : Heads) → h.there ≡ false → length h.bytes.items ≤ 4096 → IsHeads [] h
heads_new h off most = record { known = subst (λ (l : Units). KnowsHeader l h) (sym none_last) off; most = most }

-- a sequence header begins
pub heads_begun : (old mid new : Heads) (u : List ℕ) → is_sequence u ≡ true → mid.there ≡ true → mid.follows ≡ true → mid.lost ≡ false → mid.bytes.items ≡ [] → IsAppended mid u new → IsBehind old u new
heads_begun old mid new u on there follows lost none a before h =
    let e : mid.bytes.items ++ u ≡ joined (u ∷ []) = ap (λ (l : List ℕ). l ++ u) none ∙ sym (append-nil u) in
    let f : joined (u ∷ []) ≡ joined (u ∷ extensions_first []) = ap (λ (l : Units). joined (u ∷ l)) (sym no_extensions.0) in
    let header : IsHeader u [] new = record {
      there = a.there ∙ there;
      follows = a.follows ∙ follows ∙ ap is_empty (sym no_extensions.1);
      lost = a.lost ∙ ap (λ (b : Bool). b || is_long (mid.bytes.items ++ u)) lost ∙ ap is_long (e ∙ f) ∙ no_matrices (is_long (joined (u ∷ extensions_first [])));
      bytes = λ off. a.bytes off ∙ e ∙ f;
    } in
    record {
      known = subst (λ (l : Units). KnowsHeader l new) (sym (last_header before u on)) header;
      most = a.most (omega (arith, ap length none));
    }
  where
    no_matrices : (b : Bool) → b ≡ (has_matrices (behind_extensions []) || b)
    no_matrices b = sym (ap (λ (x : Bool). x || b) (ap has_matrices no_extensions.1 ∙ no_extensions.2))

-- a longer header is too long if a shorter one is
long_more : (a b : List ℕ) → (is_long a || is_long (a ++ b)) ≡ is_long (a ++ b)
long_more a b = elim (cases_Bool (nat_le (length (a ++ b)) most_head)) [
  | inl on ↦
      let short : nat_le (length a) most_head ≡ true = le-leb (length a) most_head (omega (arith, leb-true (length (a ++ b)) most_head on, length-append a b)) in
      ap (λ (x : Bool). not x || is_long (a ++ b)) short
  | inr off ↦ ap (λ (x : Bool). is_long a || not x) off ∙ or-true (is_long a) ∙ ap not (sym off)
]

-- bytes that are known only where nothing is lost
lost_more : (old new : Bool) (a b v : List ℕ) → (old ≡ false → a ≡ b) → (old || is_long (a ++ v)) ≡ new → old ≡ is_long b → new ≡ is_long (b ++ v)
lost_more true new a b v same e long = sym e ∙ ap (λ (x : Bool). x || is_long (b ++ v)) long ∙ long_more b v
lost_more false new a b v same e long = sym e ∙ ap (λ (l : List ℕ). is_long (l ++ v)) (same refl)

appended_header : (u : List ℕ) (us : Units) (old new : Heads) (v : List ℕ) → IsHeader u us old → old.follows ≡ true → is_extension v ≡ true → IsAppended old v new → IsHeader u (us ++ v ∷ []) new
appended_header u us old new v h follows on a =
    let empty : is_empty (behind_extensions us) ≡ true = sym h.follows ∙ follows in
    let j = joins us v empty on in
    let nothing : has_matrices (behind_extensions us) ≡ false = none_there (behind_extensions us) empty in
    let own = joined (u ∷ extensions_first us) in
    let was : old.lost ≡ is_long own = h.lost ∙ ap (λ (b : Bool). b || is_long own) nothing in
    let more : own ++ v ≡ joined (u ∷ extensions_first (us ++ v ∷ [])) = joined_one u (extensions_first us) v ∙ ap (λ (l : Units). joined (u ∷ l)) (sym j.first) in
    let now : new.lost ≡ is_long (own ++ v) = lost_more old.lost new.lost old.bytes.items own v h.bytes (sym a.lost) was in
    let none : has_matrices (behind_extensions (us ++ v ∷ [])) ≡ false = ap has_matrices j.behind ∙ no_extensions.2 in
    record {
      there = a.there ∙ h.there;
      follows = a.follows ∙ follows ∙ ap is_empty (sym j.behind);
      lost = now ∙ ap is_long more ∙ ap (λ (b : Bool). b || is_long (joined (u ∷ extensions_first (us ++ v ∷ [])))) (sym none);
      bytes = λ off. a.bytes off ∙ ap (λ (l : List ℕ). l ++ v) (h.bytes (or_parts old.lost (is_long (old.bytes.items ++ v)) (sym a.lost ∙ off)).0) ∙ more;
    }
  where
    none_there : (xs : Units) → is_empty xs ≡ true → has_matrices xs ≡ false
    none_there [] e = no_extensions.2
    none_there (x ∷ xs) e = absurd (both_ways false refl e)

appended_known : (l : Units) (old new : Heads) (v : List ℕ) → KnowsHeader l old → old.follows ≡ true → is_extension v ≡ true → IsAppended old v new → KnowsHeader (with_one l v) new
appended_known [] old new v k follows on a = a.there ∙ k
appended_known (u ∷ us) old new v k follows on a = appended_header u us old new v k follows on a

-- an extension right behind the header
pub heads_appended : (old new : Heads) (v : List ℕ) → is_sequence v ≡ false → old.follows ≡ true → is_extension v ≡ true → IsAppended old v new → IsBehind old v new
heads_appended old new v off follows on a before h = record {
  known = subst (λ (l : Units). KnowsHeader l new) (sym (last_other before v off)) (appended_known (from_last_sequence before) old new v h.known follows on a);
  most = a.most h.most;
}

passed_header : (u : List ℕ) (us : Units) (old new : Heads) (v : List ℕ) → IsHeader u us old → (old.follows ≡ false) ⊎ (is_extension v ≡ false) → new.there ≡ old.there → new.follows ≡ false → new.lost ≡ (old.lost || is_matrices v) → new.bytes.items ≡ old.bytes.items → IsHeader u (us ++ v ∷ []) new
passed_header u us old new v h end there follows lost bytes =
    let s = stands us v (ends end) in
    let own = joined (u ∷ extensions_first us) in
    let same : own ≡ joined (u ∷ extensions_first (us ++ v ∷ [])) = ap (λ (l : Units). joined (u ∷ l)) (sym s.first) in
    let more : has_matrices (behind_extensions (us ++ v ∷ [])) ≡ (has_matrices (behind_extensions us) || is_matrices v) = ap has_matrices s.behind ∙ matrices_snoc (behind_extensions us) v in
    record {
      there = there ∙ h.there;
      follows = follows ∙ sym (ap is_empty s.behind ∙ snoc_empty (behind_extensions us) v);
      lost = lost ∙ ap (λ (b : Bool). b || is_matrices v) h.lost ∙ swap (has_matrices (behind_extensions us)) (is_long own) (is_matrices v) ∙ ap (λ (b : Bool). b || is_long own) (sym more) ∙ ap (λ (l : List ℕ). has_matrices (behind_extensions (us ++ v ∷ [])) || is_long l) same;
      bytes = λ off. bytes ∙ h.bytes (or_parts old.lost (is_matrices v) (sym lost ∙ off)).0 ∙ same;
    }
  where
    ends : (old.follows ≡ false) ⊎ (is_extension v ≡ false) → (is_empty (behind_extensions us) ≡ false) ⊎ (is_extension v ≡ false)
    ends (inl e) = inl (sym h.follows ∙ e)
    ends (inr e) = inr e

    swap : (a b c : Bool) → ((a || b) || c) ≡ ((a || c) || b)
    swap a b c = or_assoc a b c ∙ ap (λ (x : Bool). a || x) (or_comm b c) ∙ sym (or_assoc a c b)

passed_known : (l : Units) (old new : Heads) (v : List ℕ) → KnowsHeader l old → (old.follows ≡ false) ⊎ (is_extension v ≡ false) → new.there ≡ old.there → new.follows ≡ false → new.lost ≡ (old.lost || is_matrices v) → new.bytes.items ≡ old.bytes.items → KnowsHeader (with_one l v) new
passed_known [] old new v k end there follows lost bytes = there ∙ k
passed_known (u ∷ us) old new v k end there follows lost bytes = passed_header u us old new v k end there follows lost bytes

-- a unit that doesn't belong to the header
pub heads_passed : (old new : Heads) (v : List ℕ) → is_sequence v ≡ false → (old.follows ≡ false) ⊎ (is_extension v ≡ false) → new.there ≡ old.there → new.follows ≡ false → new.lost ≡ (old.lost || is_matrices v) → new.bytes.items ≡ old.bytes.items → IsBehind old v new
heads_passed old new v off end there follows lost bytes before h = record {
  known = subst (λ (l : Units). KnowsHeader l new) (sym (last_other before v off)) (passed_known (from_last_sequence before) old new v h.known end there follows lost bytes);
  most = omega (arith, ap length bytes, h.most);
}

-- ---- unit by unit

-- the units before a place were taken, with a sequence header among them where one was met
pub record WalkedTo (us : Units) (z : ℕ) (bytes : List ℕ) (at : ℕ) (met : Bool) (old new : Heads) : Type 0 where
  pub done : Units
  pub rest : Units
  pub are : us ≡ done ++ rest
  pub units : AreUnits rest
  pub within : at ≤ length bytes
  pub going : at < length bytes → (text_of (drop at bytes) z ≡ joined rest) × IsZeroEnded (drop at bytes) z
  pub over : length bytes ≤ at → rest ≡ []
  pub seen : met ≡ true → has_sequence done ≡ true
  pub heads : (before : Units) → IsHeads before old → IsHeads (before ++ done) new

pub walked_start : (z : ℕ) (bytes : List ℕ) (h : Heads) → IsWhole (text_of bytes z) → IsZeroEnded bytes z → WalkedTo (units_of (text_of bytes z)) z bytes 0 false h h
walked_start z bytes h whole ended = record {
  done = [];
  rest = units_of (text_of bytes z);
  are = refl;
  units = are_units (text_of bytes z);
  within = omega arith;
  going = λ lt. (whole, ended);
  over = λ le. none_left bytes z ended le;
  seen = λ on. absurd cc;
  heads = λ before k. subst (λ (l : Units). IsHeads l h) (sym (append-nil before)) k;
}

pub walked_whole : (us : Units) (z : ℕ) (bytes : List ℕ) (at : ℕ) (met : Bool) (old new : Heads) → WalkedTo us z bytes at met old new → at < length bytes → IsWhole (text_of (drop at bytes) z)
walked_whole us z bytes at met old new w lt = let e = (w.going lt).0 in e ∙ ap joined (sym (ap units_of e ∙ cut_units w.rest w.units))

seen_more : (us : Units) (u : List ℕ) (met met' : Bool) → (met ≡ true → has_sequence us ≡ true) → (met' ≡ true → (met ≡ true) ⊎ (is_sequence u ≡ true)) → met' ≡ true → has_sequence (us ++ u ∷ []) ≡ true
seen_more us u met met' seen more on = elim (more on) [
  | inl before ↦ has_snoc us u ∙ ap (λ (b : Bool). b || is_sequence u) (seen before)
  | inr here ↦ has_snoc us u ∙ ap (λ (b : Bool). has_sequence us || b) here ∙ or-true (has_sequence us)
]

-- one unit more, where these hold of what is behind it
walked_on : (us : Units) (z : ℕ) (bytes : List ℕ) (at n behind : ℕ) (met met' : Bool) (old mid new : Heads) (w : WalkedTo us z bytes at met old mid) (u : List ℕ) (others : Units) → w.rest ≡ u ∷ others → AreUnits others
    → text_of (take n (drop at bytes)) behind ≡ u → (met' ≡ true → (met ≡ true) ⊎ (is_sequence (text_of (take n (drop at bytes)) behind) ≡ true)) → IsBehind mid (text_of (take n (drop at bytes)) behind) new
    → at + n ≤ length bytes → (at + n < length bytes → (text_of (drop (at + n) bytes) z ≡ joined others) × IsZeroEnded (drop (at + n) bytes) z) → (length bytes ≤ at + n → others ≡ []) → WalkedTo us z bytes (at + n) met' old new
walked_on us z bytes at n behind met met' old mid new w u others rest units unit more step within going over = record {
  done = w.done ++ u ∷ [];
  rest = others;
  are = w.are ∙ ap (λ (l : Units). w.done ++ l) rest ∙ sym (append_assoc w.done (u ∷ []) others);
  units = units;
  within = within;
  going = going;
  over = over;
  seen = seen_more w.done u met met' w.seen (subst (λ (x : List ℕ). met' ≡ true → (met ≡ true) ⊎ (is_sequence x ≡ true)) unit more);
  heads = λ before h. subst (λ (l : Units). IsHeads l new) (append_assoc before w.done (u ∷ [])) (subst (λ (x : List ℕ). IsHeads ((before ++ w.done) ++ x ∷ []) new) unit (step (before ++ w.done) (w.heads before h)));
}

pub walked_next : (us : Units) (z : ℕ) (bytes : List ℕ) (at n behind : ℕ) (met met' : Bool) (old mid new : Heads) → WalkedTo us z bytes at met old mid → at < length bytes → IsFirstLength (drop at bytes) z n
    → ((n ≡ length (drop at bytes)) × (behind ≡ z)) ⊎ ((n ≡ length (drop at bytes) → ⊥) × (behind ≡ 0))
    → (met' ≡ true → (met ≡ true) ⊎ (is_sequence (text_of (take n (drop at bytes)) behind) ≡ true))
    → IsBehind mid (text_of (take n (drop at bytes)) behind) new → WalkedTo us z bytes (at + n) met' old new
walked_next us z bytes at n behind met met' old mid new w some f zeros more step =
    let b = drop at bytes in
    let g = w.going some in
    let u = f.unit in
    let others = f.others in
    let rest : w.rest ≡ u ∷ others = sym (ap units_of g.0 ∙ cut_units w.rest w.units) ∙ f.are in
    let text : text_of b z ≡ u ++ joined others = g.0 ∙ ap joined rest in
    let units : AreUnits (u ∷ others) = subst AreUnits rest w.units in
    let size : length b ≡ length bytes - at = length-drop at bytes in
    elim (where_unit b z n u others f.least units.3 text) [
      | inl k ↦
          let own : take n b ≡ u = sym (take-append-le n b (replicate z 0) k.1) ∙ ap (take n) text ∙ take_at u (joined others) n (sym k.0) in
          let tail : text_of (drop n b) z ≡ joined others = sym (drop-append-le n b (replicate z 0) k.1) ∙ ap (drop n) text ∙ drop_at u (joined others) n (sym k.0) in
          let left : drop n b ≡ drop (at + n) bytes = drop-drop n at bytes in
          let unit : text_of (take n b) behind ≡ u = kept_unit b z n behind u others own tail units.3 zeros in
          walked_on us z bytes at n behind met met' old mid new w u others rest units.3 unit more step (omega (arith, k.1, size, some))
          (λ lt. (
            ap (λ (l : List ℕ). text_of l z) (sym left) ∙ tail,
            subst (λ (l : List ℕ). IsZeroEnded l z) left (ended_next b z n g.1 (omega (arith, lt, size, length-drop n b, some))),
          ))
          (λ le.
          let none : drop n b ≡ [] = drop_all n b (omega (arith, le, size, some)) in
          none_in_zeros others z units.3 (sym tail ∙ ap (λ (l : List ℕ). text_of l z) none))
      | inr k ↦
          let all : take n b ≡ b = take_all n b (omega (arith, k.0)) in
          let unit : text_of (take n b) behind ≡ u = ap (λ (l : List ℕ). text_of l behind) all ∙ ap (λ (m : ℕ). text_of b m) (last_zeros b z n behind k.0 zeros) ∙ sym k.2 in
          walked_on us z bytes at n behind met met' old mid new w u others rest units.3 unit more step (omega (arith, k.0, size, some)) (λ lt. absurd (omega (arith, lt, k.0, size, some))) (λ le. k.1)
    ]
  where
    last_zeros : (b : List ℕ) (z n behind : ℕ) → n ≡ length b → ((n ≡ length b) × (behind ≡ z)) ⊎ ((n ≡ length b → ⊥) × (behind ≡ 0)) → behind ≡ z
    last_zeros b z n behind e (inl h) = h.1
    last_zeros b z n behind e (inr h) = absurd (h.0 e)

    none_over : (b : List ℕ) (z n : ℕ) (others : Units) → n ≡ length b → text_of (drop n b) z ≡ joined others → AreUnits others → z ≡ 0
    none_over b z n others e tail are =
        let none : drop n b ≡ [] = drop_all n b (omega (arith, e)) in
        let zeros : joined others ≡ replicate z 0 = sym tail ∙ ap (λ (l : List ℕ). text_of l z) none in
        let last = none_in_zeros others z are zeros in
        omega (arith, ap length zeros, ap (λ (l : Units). length (joined l)) last, length-replicate {A = ℕ} z 0)

    kept_unit : (b : List ℕ) (z n behind : ℕ) (u : List ℕ) (others : Units) → take n b ≡ u → text_of (drop n b) z ≡ joined others → AreUnits others → ((n ≡ length b) × (behind ≡ z)) ⊎ ((n ≡ length b → ⊥) × (behind ≡ 0)) → text_of (take n b) behind ≡ u
    kept_unit b z n behind u others own tail are (inl h) = ap (λ (m : ℕ). text_of (take n b) m) (h.1 ∙ none_over b z n others h.0 tail are) ∙ append-nil (take n b) ∙ own
    kept_unit b z n behind u others own tail are (inr h) = ap (λ (m : ℕ). text_of (take n b) m) h.1 ∙ append-nil (take n b) ∙ own

-- ---- as the program shows it

-- where a sequence header was met before, or the bytes of the next unit that are kept are those of one
met_by : (met met' : Bool) (kept : List ℕ) (z : ℕ) → 4 ≤ length kept → (met' ≡ true → (met ≡ true) ⊎ (get_or kept 3 0 ≡ 0xB3)) → met' ≡ true → (met ≡ true) ⊎ (is_sequence (text_of kept z) ≡ true)
met_by met met' kept z le more on = elim (more on) [
  | inl before ↦ inl before
  | inr here ↦ inr (eq-eqb (value_of (text_of kept z)) 0xB3 (within_get kept z 3 (omega (arith, le)) ∙ here))
]

pub walked_at : (us : Units) (z : ℕ) (bytes : List ℕ) (at n k left behind : ℕ) (met met' : Bool) (b : List ℕ) (old mid new : Heads) → b ≡ drop at bytes → k ≡ n → left ≡ length bytes - at → WalkedTo us z bytes at met old mid → at < length bytes → IsFirstLength b z n
    → IsLeftOut n left z behind → 4 ≤ length (take k (drop at bytes)) → (met' ≡ true → (met ≡ true) ⊎ (get_or (take k (drop at bytes)) 3 0 ≡ 0xB3)) → IsBehind mid (text_of (take k (drop at bytes)) behind) new → WalkedTo us z bytes (at + n) met' old new
walked_at us z bytes at n k left behind met met' b old mid new eb ek el w some f zeros four more step =
    let own : IsFirstLength (drop at bytes) z n = subst (λ (l : List ℕ). IsFirstLength l z n) eb f in
    let size : left ≡ length (drop at bytes) = omega (arith, el, length-drop at bytes) in
    let out : IsLeftOut n (length (drop at bytes)) z behind = subst (λ (m : ℕ). IsLeftOut n m z behind) size zeros in
    let seen = met_by met met' (take k (drop at bytes)) behind four more in
    walked_next us z bytes at n behind met met' old mid new w some own out (subst (λ (m : ℕ). met' ≡ true → (met ≡ true) ⊎ (is_sequence (text_of (take m (drop at bytes)) behind) ≡ true)) ek seen) (subst (λ (m : ℕ). IsBehind mid (text_of (take m (drop at bytes)) behind) new) ek step)

pub walked_least : (us : Units) (z : ℕ) (bytes : List ℕ) (at n : ℕ) (met : Bool) (b : List ℕ) (old new : Heads) → b ≡ drop at bytes → WalkedTo us z bytes at met old new → at < length bytes → IsFirstLength b z n → 4 ≤ n
walked_least us z bytes at n met b old new eb w some f =
    first_least (drop at bytes) z n (omega (arith, some, length-drop at bytes)) (w.going some).1 (walked_whole us z bytes at met old new w some) (subst (λ (l : List ℕ). IsFirstLength l z n) eb f)

-- at least the four bytes of its start code are kept of the next unit
pub walked_four : (us : Units) (z : ℕ) (bytes : List ℕ) (at n : ℕ) (met : Bool) (b : List ℕ) (old new : Heads) → b ≡ drop at bytes → WalkedTo us z bytes at met old new → at < length bytes → IsFirstLength b z n → n ≤ length b
    → 4 ≤ length (take (at + n - at) (drop at bytes))
walked_four us z bytes at n met b old new eb w some f within =
    let least = walked_least us z bytes at n met b old new eb w some f in
    omega (arith, least, within, ap length eb, length-take (at + n - at) (drop at bytes))

pub kept_value : (kept : List ℕ) (z v : ℕ) → 4 ≤ length kept → get_or kept 3 0 ≡ v → value_of (text_of kept z) ≡ v
kept_value kept z v le e = within_get kept z 3 (omega (arith, le)) ∙ e

-- ---- units that change nothing

-- behind a header that is whole: units without a sequence header and without a quant matrix extension
pub heads_same : (us : Units) (h : Heads) → h.follows ≡ false → has_sequence us ≡ false → has_matrices us ≡ false → (before : Units) → IsHeads before h → IsHeads (before ++ us) h
unfolding has_sequence has_matrices
heads_same [] h f s m before k = subst (λ (l : Units). IsHeads l h) (sym (append-nil before)) k
heads_same (u ∷ us) h f s m before k =
    let a = or_parts (is_sequence u) (has_sequence us) s in
    let b = or_parts (is_matrices u) (has_matrices us) m in
    let lost : h.lost ≡ (h.lost || is_matrices u) = sym (ap (λ (x : Bool). h.lost || x) b.0 ∙ or-false h.lost) in
    subst (λ (l : Units). IsHeads l h) (append_assoc before (u ∷ []) us) (heads_same us h f a.1 b.1 (before ++ u ∷ []) (heads_passed h h u a.0 (inl f) refl f lost refl before k))

-- ---- no sequence header behind the only one

none_more : (us : Units) → more_sequences true us ≡ false → has_sequence us ≡ false
unfolding more_sequences has_sequence
none_more [] h = refl
none_more (u ∷ us) h = let p = or_parts (is_sequence u) (more_sequences true us) h in ap (λ (b : Bool). b || has_sequence us) p.0 ∙ none_more us p.1

more_behind : (met : Bool) (done rest : Units) → more_sequences met (done ++ rest) ≡ false → (met || has_sequence done) ≡ true → has_sequence rest ≡ false
unfolding more_sequences has_sequence
more_behind met [] rest h on = none_more rest (ap (λ (b : Bool). more_sequences b rest) (sym (sym (or-false met) ∙ on)) ∙ h)
more_behind met (u ∷ done) rest h on =
    let p = or_parts (met && is_sequence u) (more_sequences (met || is_sequence u) (done ++ rest)) h in
    more_behind (met || is_sequence u) done rest p.1 (or_assoc met (is_sequence u) (has_sequence done) ∙ on)

pub walked_over : (us : Units) (z : ℕ) (bytes : List ℕ) (at : ℕ) (met : Bool) (old new : Heads) → WalkedTo us z bytes at met old new → IsOnce us → met ≡ true → new.follows ≡ false
    → (before : Units) → IsHeads before old → IsHeads (before ++ us) new
walked_over us z bytes at met old new w once on ended before h =
    let sequences : more_sequences false (w.done ++ w.rest) ≡ false = ap (more_sequences false) (sym w.are) ∙ once.once in
    let matrices = or_parts (has_matrices w.done) (has_matrices w.rest) (sym (matrices_append w.done w.rest) ∙ ap has_matrices (sym w.are) ∙ once.none) in
    subst (λ (l : Units). IsHeads l new) (append_assoc before w.done w.rest ∙ ap (λ (l : Units). before ++ l) (sym w.are))
    (heads_same w.rest new ended (more_behind false w.done w.rest sequences (w.seen on)) matrices.1 (before ++ w.done) (w.heads before h))
