-- A text has one verdict.
use Rattle.std.proofs.Common.{◌≡◌, ℕ, Bool, true, false, List, length, refl, sym, ap, ◌∙◌}
use Rattle.m2v_model.specs.Streams.{Sofar}
use Rattle.m2v_model.specs.Decoding.{Stream, Decodes, events, pictures, frames_of}
use Rattle.m2v_model.specs.Lawful.{Breach, breach, is_variable, all_numbered}
use Rattle.m2v_model.proofs.Unique.{exactly_one}
use Rattle.m2v_model.proofs.VerdictLaws.{one_verdict}
use Rattle.m2v_check.specs.declared.verdict.Figures.{Figures}
use Rattle.m2v_check.specs.declared.verdict.Verdict.{Verdict}
use Rattle.m2v_check.specs.declared.verdict.Verdict.TheVariants as verdicts
use Rattle.m2v_check.specs.Meaning.{HasCounts, HasRate, buffer_figures, Means}

one_tree : (text : List ℕ) (a b : Sofar) → Stream text a → Stream text b → a ≡ b
one_tree text = (exactly_one text).one_tree

one_rate : (text : List ℕ) (a b : Bool) → HasRate text a → HasRate text b → a ≡ b
one_rate text a b h k = sym h.rate ∙ ap (λ (t : Sofar). is_variable (all_numbered (events t))) (one_tree text h.tree k.tree h.stream k.stream) ∙ k.rate

not_two : (text : List ℕ) → HasRate text false → HasRate text true → ⊥
not_two text h k = let e = one_rate text false true h k in absurd cc

one_count : (text : List ℕ) (f g : Figures) → HasCounts text f → HasCounts text g → buffer_figures f ≡ buffer_figures g → f ≡ g
one_count text f g h k e =
    let t = one_tree text h.tree k.tree h.stream k.stream in
    let frames : f.frames ≡ g.frames = h.frames ∙ ap (λ (x : Sofar). length (frames_of x)) t ∙ sym k.frames in
    let pictures : f.pictures ≡ g.pictures = h.pictures ∙ ap (λ (x : Sofar). length (pictures x)) t ∙ sym k.pictures in
    let bytes : f.bytes ≡ g.bytes = h.bytes ∙ sym k.bytes in
    λ i. record { frames = frames i; pictures = pictures i; bytes = bytes i; low = (e i).low; high = (e i).high; delays = (e i).delays }

same_breach : (r p h n r2 p2 h2 n2 : ℕ) → breach r p h n ≡ breach r2 p2 h2 n2 → verdicts.Unlawful r p h n ≡ verdicts.Unlawful r2 p2 h2 n2
same_breach r p h n r2 p2 h2 n2 e = ap (λ (b : Breach). verdicts.Unlawful b.rule b.picture b.have b.need) e

-- the stream of a verdict
pub stream_in : (text : List ℕ) (v : Verdict) → Means text v → (tree : Sofar) × Stream text tree
stream_in text (verdicts.Lawful f) m = (m.lawful.tree, m.lawful.stream)
stream_in text (verdicts.Variable f) m = (m.lawful.tree, m.lawful.stream)
stream_in text (verdicts.Unlawful r p h n) m = (m.tree, m.stream)
stream_in text (verdicts.Buffer f) m = (m.lawful.tree, m.lawful.stream)

pub decoding_in : (text : List ℕ) (v : Verdict) → Means text v → (frames : List (List ℕ)) × Decodes text frames
decoding_in text v m = let s = stream_in text v m in (frames_of s.0, record { tree = s.0; stream = s.1; shown = refl })

pub one_meaning : (text : List ℕ) (v w : Verdict) → Means text v → Means text w → v ≡ w
one_meaning text (verdicts.Lawful f) (verdicts.Lawful g) m k =
    let one = one_verdict text m.lawful.tree m.lawful.stream in
    ap verdicts.Lawful (one_count text f g m.counts k.counts (one.one_figures (buffer_figures f) (buffer_figures g) m.buffer k.buffer))
one_meaning text (verdicts.Lawful f) (verdicts.Variable g) m k = absurd (not_two text m.constant k.variable)
one_meaning text (verdicts.Lawful f) (verdicts.Unlawful r p h n) m k = absurd ((one_verdict text k.tree k.stream).not_lawful (breach r p h n) m.lawful k)
one_meaning text (verdicts.Lawful f) (verdicts.Buffer g) m k = absurd ((one_verdict text m.lawful.tree m.lawful.stream).not_safe g m.safe k.unsafe)
one_meaning text (verdicts.Variable f) (verdicts.Lawful g) m k = absurd (not_two text k.constant m.variable)
one_meaning text (verdicts.Variable f) (verdicts.Variable g) m k = ap verdicts.Variable (one_count text f g m.counts k.counts (m.none ∙ sym k.none))
one_meaning text (verdicts.Variable f) (verdicts.Unlawful r p h n) m k = absurd ((one_verdict text k.tree k.stream).not_lawful (breach r p h n) m.lawful k)
one_meaning text (verdicts.Variable f) (verdicts.Buffer g) m k = absurd (not_two text k.constant m.variable)
one_meaning text (verdicts.Unlawful r p h n) (verdicts.Lawful g) m k = absurd ((one_verdict text m.tree m.stream).not_lawful (breach r p h n) k.lawful m)
one_meaning text (verdicts.Unlawful r p h n) (verdicts.Variable g) m k = absurd ((one_verdict text m.tree m.stream).not_lawful (breach r p h n) k.lawful m)
one_meaning text (verdicts.Unlawful r p h n) (verdicts.Unlawful r2 p2 h2 n2) m k =
    same_breach r p h n r2 p2 h2 n2 ((one_verdict text m.tree m.stream).one_breach (breach r p h n) (breach r2 p2 h2 n2) m k)
one_meaning text (verdicts.Unlawful r p h n) (verdicts.Buffer g) m k = absurd ((one_verdict text m.tree m.stream).not_lawful (breach r p h n) k.lawful m)
one_meaning text (verdicts.Buffer f) (verdicts.Lawful g) m k = absurd ((one_verdict text k.lawful.tree k.lawful.stream).not_safe f k.safe m.unsafe)
one_meaning text (verdicts.Buffer f) (verdicts.Variable g) m k = absurd (not_two text m.constant k.variable)
one_meaning text (verdicts.Buffer f) (verdicts.Unlawful r p h n) m k = absurd ((one_verdict text k.tree k.stream).not_lawful (breach r p h n) m.lawful k)
one_meaning text (verdicts.Buffer f) (verdicts.Buffer g) m k = ap verdicts.Buffer ((one_verdict text m.lawful.tree m.lawful.stream).one_failure f g m.unsafe k.unsafe)
