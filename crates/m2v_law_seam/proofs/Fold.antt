-- What holds of the strands after each span, and the law that a mended text decodes to what its strands show.
use Rattle.std.proofs.Common.{◌≡◌, ℕ, Bool, true, false, List, [], ◌∷◌, ◌++◌, Option, Some, None, refl, sym, ap, subst, ◌∙◌, append-nil}
use Rattle.std.specs.Prelude.{not, ◌&&◌, ◌||◌, is_none, if◌then◌else◌}
use Rattle.m2v_model.specs.declared.state.Sequence.{Sequence}
use Rattle.m2v_model.specs.Units.{joined}
use Rattle.m2v_model.specs.Decoding.{Decodes, frames_of}
use Rattle.m2v_law_group.specs.Groups.{end_code}
use Rattle.m2v_law_group.proofs.Lists.{and_parts}
use Rattle.m2v_law_seam.specs.Spans.{units_in, begins_kind, has_matrices, Dividing, Span, spans_in}
use Rattle.m2v_law_seam.specs.Seams.{leading, opened_pieces, opened}
use Rattle.m2v_law_seam.specs.Strands.{read_of, pictures_of, first_in, reads, all_fit, is_short, keeps_rule, are_joint, agrees, is_strand}
use Rattle.m2v_law_seam.specs.Faults.{has_head, begins_entry}
use Rattle.m2v_law_seam.specs.Mending.{Mending, nothing_yet, strand_of, strands_of, first_kept, strand_with, goes_behind, put_behind, begins_strand, strand_begun, left_out, with_span, with_spans, ended_by, strand_ended, with_stretches, mending, ended_text, strands, mended}
use Rattle.m2v_law_seam.specs.Mends.{AllDecode, in_turn, MendDecodes}
use Rattle.m2v_law_seam.proofs.Strand.{StrandUnits}
use Rattle.m2v_law_seam.proofs.Chain.{reads_as, agree_back, agree_self, AllFollow, chained, frames_counted}

-- ---- strands that were kept

-- each reads, and its header agrees with the first one that was kept
abbrev pub AllKept : Option Sequence → List (List ℕ) → Type 0
AllKept f [] = Unit {0}
AllKept f (s ∷ ss) = (reads s ≡ true) × (agrees f (first_in (read_of s)) ≡ true) × AllKept f ss

-- each keeps the rule
abbrev pub AllRuled : List (List ℕ) → Type 0
AllRuled [] = Unit {0}
AllRuled (s ∷ ss) = (keeps_rule (pictures_of (read_of s)) ≡ true) × AllRuled ss

-- each but the first one
abbrev pub OthersRuled : List (List ℕ) → Type 0
OthersRuled [] = Unit {0}
OthersRuled (s ∷ ss) = AllRuled ss

-- what holds of what was kept so far
pub record IsKept (m : Mending) : Type 0 where
  pub kept : AllKept m.first (strands_of m)
  pub ruled : OthersRuled (strands_of m)
  pub opens : m.opening ≡ true → m.done ≡ []
  pub none : m.first ≡ None → strands_of m ≡ []

-- ---- lists of strands

kept_front : (f : Option Sequence) (ss ts : List (List ℕ)) → AllKept f (ss ++ ts) → AllKept f ss
kept_front f [] ts h = tt
kept_front f (s ∷ ss) ts h = (h.0, h.1, kept_front f ss ts h.2)

kept_more : (f : Option Sequence) (ss : List (List ℕ)) (t : List ℕ) → AllKept f ss → reads t ≡ true → agrees f (first_in (read_of t)) ≡ true → AllKept f (ss ++ t ∷ [])
kept_more f [] t h r a = (r, a, tt)
kept_more f (s ∷ ss) t h r a = (h.0, h.1, kept_more f ss t h.2 r a)

ruled_front : (ss ts : List (List ℕ)) → AllRuled (ss ++ ts) → AllRuled ss
ruled_front [] ts h = tt
ruled_front (s ∷ ss) ts h = (h.0, ruled_front ss ts h.1)

others_front : (ss ts : List (List ℕ)) → OthersRuled (ss ++ ts) → OthersRuled ss
others_front [] ts h = tt
others_front (s ∷ ss) ts h = ruled_front ss ts h

ruled_more : (ss : List (List ℕ)) (t : List ℕ) → AllRuled ss → keeps_rule (pictures_of (read_of t)) ≡ true → AllRuled (ss ++ t ∷ [])
ruled_more [] t h r = (r, tt)
ruled_more (s ∷ ss) t h r = (h.0, ruled_more ss t h.1 r)

-- one more strand, which keeps the rule or is the first one
others_more : (opening : Bool) (ss : List (List ℕ)) (t : List ℕ) → OthersRuled ss → (opening ≡ true → ss ≡ []) → (opening || keeps_rule (pictures_of (read_of t))) ≡ true → OthersRuled (ss ++ t ∷ [])
others_more opening [] t h none r = tt
others_more true (s ∷ ss) t h none r = let wrong : s ∷ ss ≡ [] = none refl in absurd cc
others_more false (s ∷ ss) t h none r = ruled_more ss t h r

none_front : (ss ts : List (List ℕ)) → ss ++ ts ≡ [] → ss ≡ []
none_front [] ts e = refl
none_front (s ∷ ss) ts e = absurd cc

-- ---- one strand more

record IsStrandOf (opening : Bool) (first : Option Sequence) (t : List ℕ) : Type 0 where
  read : reads t ≡ true
  agree : agrees first (first_in (read_of t)) ≡ true
  rule : (opening || keeps_rule (pictures_of (read_of t))) ≡ true

strand_parts : (opening : Bool) (first : Option Sequence) (t : List ℕ) → is_strand opening first t ≡ true → IsStrandOf opening first t
strand_parts opening first t h =
    let a = and_parts (reads t) _ h in
    let b = and_parts (agrees first (first_in (read_of t))) _ a.1 in
    record { read = a.0; agree = b.0; rule = b.1 }

-- bytes that read are there
some_bytes : (t : List ℕ) → reads t ≡ true → strand_of (Some t) ≡ t ∷ []
some_bytes [] h = absurd cc
some_bytes (b ∷ t) h = refl

-- the header that is kept with it: the first one before, or its own
own_agrees : (first : Option Sequence) (t : List ℕ) → reads t ≡ true → agrees first (first_in (read_of t)) ≡ true → agrees (first_kept first (first_in (read_of t))) (first_in (read_of t)) ≡ true
own_agrees (Some f) t r a = a
own_agrees None t r a = let x = reads_as t r in subst (λ (o : Option Sequence). agrees o o ≡ true) (sym x.first_is) (agree_self x.s)

first_there : (first : Option Sequence) (t : List ℕ) → reads t ≡ true → first_kept first (first_in (read_of t)) ≡ None → ⊥
first_there (Some f) t r e = absurd cc
first_there None t r e = let x = reads_as t r in let wrong : Some x.s ≡ None = sym x.first_is ∙ e in absurd cc

-- strands before it agree with that header too
others_agree : (first : Option Sequence) (ss : List (List ℕ)) (o : Option Sequence) → AllKept first ss → (first ≡ None → ss ≡ []) → AllKept (first_kept first o) ss
others_agree (Some f) ss o h none = h
others_agree None ss o h none = subst (AllKept o) (sym (none refl)) tt

-- strands that were kept, with one more
with_strand : (opening : Bool) (first : Option Sequence) (ss : List (List ℕ)) (t : List ℕ) → AllKept first ss → OthersRuled ss → (opening ≡ true → ss ≡ []) → (first ≡ None → ss ≡ []) → IsStrandOf opening first t
    → AllKept (first_kept first (first_in (read_of t))) (ss ++ t ∷ []) × OthersRuled (ss ++ t ∷ [])
with_strand opening first ss t kept ruled opens none s = (
  kept_more (first_kept first (first_in (read_of t))) ss t (others_agree first ss (first_in (read_of t)) kept none) s.read (own_agrees first t s.read s.agree),
  others_more opening ss t ruled opens s.rule,
)

-- ---- span by span

behind_kept : (m : Mending) (s : Span) → IsKept m → goes_behind m s ≡ true → IsKept (put_behind m s)
behind_kept m s k h =
    let a = and_parts (not (is_none m.strand)) _ h in
    let b = and_parts (is_short s) (is_strand m.opening m.first (strand_with m s)) a.1 in
    let t = strand_with m s in
    let p = strand_parts m.opening m.first t b.1 in
    let x = with_strand m.opening m.first m.done t (kept_front m.first m.done (strand_of m.strand) k.kept) (others_front m.done (strand_of m.strand) k.ruled) k.opens (λ e. none_front m.done (strand_of m.strand) (k.none e)) p in
    let shape : m.done ++ strand_of (Some t) ≡ m.done ++ t ∷ [] = ap (λ (l : List (List ℕ)). m.done ++ l) (some_bytes t p.read) in
    record {
      kept = subst (AllKept (first_kept m.first (first_in (read_of t)))) (sym shape) x.0;
      ruled = subst OthersRuled (sym shape) x.1;
      opens = k.opens;
      none = λ e. absurd (first_there m.first t p.read e);
    }

begun_kept : (m : Mending) (s : Span) → IsKept m → is_strand false m.first (opened s) ≡ true → IsKept (strand_begun m s)
begun_kept m s k h =
    let t = opened s in
    let p = strand_parts false m.first t h in
    let x = with_strand false m.first (strands_of m) t k.kept k.ruled (λ e. absurd cc) k.none p in
    let shape : strands_of m ++ strand_of (Some t) ≡ strands_of m ++ t ∷ [] = ap (λ (l : List (List ℕ)). strands_of m ++ l) (some_bytes t p.read) in
    record {
      kept = subst (AllKept (first_kept m.first (first_in (read_of t)))) (sym shape) x.0;
      ruled = subst OthersRuled (sym shape) x.1;
      opens = λ e. absurd cc;
      none = λ e. absurd (first_there m.first t p.read e);
    }

pub begins_parts : (first : Option Sequence) (s : Span) → begins_strand first s ≡ true → is_strand false first (opened s) ≡ true
begins_parts first s h =
    let a = and_parts (has_head s) _ h in
    let b = and_parts (begins_entry s.pieces) _ a.1 in
    let c = and_parts (begins_kind 1 s.pieces) _ b.1 in
    let d = and_parts (not (has_matrices (units_in (leading s.pieces)))) _ c.1 in
    (and_parts (is_short s && all_fit (opened_pieces s)) (is_strand false first (opened s)) d.1).1

-- the strand that is under way has ended
over_kept : (m : Mending) → IsKept m → (z : Mending) → z.done ≡ strands_of m → z.strand ≡ None → z.opening ≡ false → z.first ≡ m.first → IsKept z
over_kept m k z done strand opening first =
    let shape : strands_of z ≡ strands_of m = ap (λ (l : List (List ℕ)). l ++ strand_of z.strand) done ∙ ap (λ (o : Option (List ℕ)). strands_of m ++ strand_of o) strand ∙ append-nil (strands_of m) in
    record {
      kept = subst (λ (o : Option Sequence). AllKept o (strands_of z)) (sym first) (subst (AllKept m.first) (sym shape) k.kept);
      ruled = subst OthersRuled (sym shape) k.ruled;
      opens = λ e. let wrong : true ≡ false = sym e ∙ opening in absurd cc;
      none = λ e. shape ∙ k.none (sym first ∙ e);
    }

span_by : (m : Mending) (s : Span) (g b : Bool) → goes_behind m s ≡ g → begins_strand m.first s ≡ b → IsKept m → IsKept (if g then put_behind m s else if b then strand_begun m s else left_out m s)
span_by m s true b eg eb k = behind_kept m s k eg
span_by m s false true eg eb k = begun_kept m s k (begins_parts m.first s eb)
span_by m s false false eg eb k = over_kept m k (left_out m s) refl refl refl refl

pub span_kept : (m : Mending) (s : Span) → IsKept m → IsKept (with_span m s)
unfolding with_span
span_kept m s k = span_by m s (goes_behind m s) (begins_strand m.first s) refl refl k

pub spans_kept : (ss : List Span) (m : Mending) → IsKept m → IsKept (with_spans m ss)
unfolding with_spans
spans_kept [] m k = k
spans_kept (s ∷ ss) m k = spans_kept ss (with_span m s) (span_kept m s k)

pub end_kept : (m : Mending) (o : Option (List ℕ)) → m.strand ≡ o → IsKept m → IsKept (ended_by o m)
end_kept m None e k = k
end_kept m (Some []) e k = k
end_kept m (Some (b ∷ t)) e k = over_kept m k (ended_by (Some (b ∷ t)) m) refl refl refl refl

pub stretches_kept : (more : List (List Span)) (m : Mending) → IsKept m → IsKept (with_stretches m more)
unfolding with_stretches
stretches_kept [] m k = k
stretches_kept (ss ∷ more) m k = let z = with_spans m ss in stretches_kept more (strand_ended z) (end_kept z z.strand refl (spans_kept ss m k))

pub mending_kept : (divide : Dividing) (text : List ℕ) → IsKept (mending divide text)
mending_kept divide text = stretches_kept (spans_in divide text) nothing_yet (record { kept = tt; ruled = tt; opens = λ e. refl; none = λ e. refl })

-- ---- all strands

-- strands that agree with one header, and keep the rule, follow a strand that agrees with it
all_follow : (f : Sequence) (first : Sequence) (ss : List (List ℕ)) → are_joint f first ≡ true → AllKept (Some f) ss → AllRuled ss → AllFollow first ss
all_follow f first [] a k r = tt
all_follow f first (s ∷ ss) a k r =
    let x = reads_as s k.0 in
    let own : are_joint f x.s ≡ true = ap (agrees (Some f)) (sym x.first_is) ∙ k.1 in
    (k.0, ap (agrees (Some first)) x.first_is ∙ agree_back f first x.s a own, r.0, all_follow f first ss a k.2 r.1)

-- what is shown of strands, and by the mended text
pub record IsMended (ss : List (List ℕ)) : Type 0 where
  pub shown : List (List (List ℕ))
  pub each : AllDecode ss shown
  pub all : Decodes (joined ss ++ end_code) (in_turn shown)
  pub units : StrandUnits (joined ss)

strands_mended : (f : Sequence) (s : List ℕ) (ss : List (List ℕ)) → AllKept (Some f) (s ∷ ss) → AllRuled ss → IsMended (s ∷ ss)
strands_mended f s ss k r =
    let x = reads_as s k.0 in
    let own : are_joint f x.s ≡ true = ap (agrees (Some f)) (sym x.first_is) ∙ k.1 in
    let c = chained ss s x.tree x.s x.units x.stream x.first (all_follow f x.s ss own k.2 r) in
    record {
      shown = frames_of x.tree ∷ c.frames;
      each = (record { tree = x.tree; stream = x.stream; shown = refl }, frames_counted s x, c.each);
      all = c.all;
      units = c.units;
    }

pub text_of : (s : List ℕ) (ss : List (List ℕ)) (bytes : List ℕ) → ended_text (s ∷ ss) ≡ Some bytes → joined (s ∷ ss) ++ end_code ≡ bytes
text_of s ss bytes e = cc

strands_by : (f : Option Sequence) (s : List ℕ) (ss : List (List ℕ)) → AllKept f (s ∷ ss) → OthersRuled (s ∷ ss) → (f ≡ None → s ∷ ss ≡ []) → IsMended (s ∷ ss)
strands_by None s ss k r none = let wrong : s ∷ ss ≡ [] = none refl in absurd cc
strands_by (Some f) s ss k r none = strands_mended f s ss k r

-- a mended text, as strands
pub record MendedAs (ss : List (List ℕ)) (bytes : List ℕ) : Type 0 where
  pub text : joined ss ++ end_code ≡ bytes
  pub made : IsMended ss

mended_as_by : (f : Option Sequence) (ss : List (List ℕ)) (bytes : List ℕ) → ended_text ss ≡ Some bytes → AllKept f ss → OthersRuled ss → (f ≡ None → ss ≡ []) → MendedAs ss bytes
mended_as_by f [] bytes e k r none = absurd cc
mended_as_by f (s ∷ ss) bytes e k r none = record { text = text_of s ss bytes e; made = strands_by f s ss k r none }

pub mended_as : (divide : Dividing) (text bytes : List ℕ) → mended divide text ≡ Some bytes → MendedAs (strands divide text) bytes
mended_as divide text bytes e =
    let m = mending divide text in
    let k = mending_kept divide text in
    mended_as_by m.first m.done bytes e (kept_front m.first m.done (strand_of m.strand) k.kept) (others_front m.done (strand_of m.strand) k.ruled) (λ none. none_front m.done (strand_of m.strand) (k.none none))

pub mend_decodes : (divide : Dividing) (text : List ℕ) → MendDecodes divide text
mend_decodes divide text bytes e =
    let x = mended_as divide text bytes e in
    let m = x.made in
    (m.shown, m.each, subst (λ (l : List ℕ). Decodes l (in_turn m.shown)) x.text m.all)
