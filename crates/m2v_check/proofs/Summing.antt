-- All pieces were judged: what that says of the text.
use Rattle.std.proofs.Common.{◌≡◌, ℕ, ◌≤◌, List, [], ◌∷◌, length, map, Option, Some, None, Result, Ok, Err, refl, sym, ap, subst, ◌∙◌, arith}
use Rattle.std.specs.Prelude.{IsSome, sum}
use Rattle.std.proofs.lemmas.List.{append-nil}
use Rattle.m2v_vbv.specs.declared.fault.AccountFault.{AccountFault}
use Rattle.m2v_model.specs.declared.state.Sequence.{Sequence}
use Rattle.m2v_model.specs.Pictures.{Events, sequence_header, group_header, coded_picture}
use Rattle.m2v_model.specs.Pieces.{pieces}
use Rattle.m2v_model.specs.Decoding.{low_delay_of}
use Rattle.m2v_model.specs.ByPieces.{at_start as text_start, pieces_read}
use Rattle.m2v_model.specs.Lawful.{Numbered, all_numbered, sequence_breaches}
use Rattle.m2v_model.specs.Buffering.{StreamAccount, account_by, account_from, figures_of}
use Rattle.m2v_decode.specs.Decoding.{Decoding, between}
use Rattle.m2v_decode.specs.Answers.{start_of}
use Rattle.m2v_check.specs.declared.judge.Judge.{Judge}
use Rattle.m2v_check.specs.declared.buffer.Buffer.{Buffer}
use Rattle.m2v_check.specs.declared.buffer.BufferFigures.{BufferFigures as Found}
use Rattle.m2v_check.specs.Breaking.{found}
use Rattle.m2v_check.specs.Running.{broken_in}
use Rattle.m2v_check.specs.Laws.{first_low_delay}
use Rattle.m2v_check.specs.Judging.{ended_by, times_of}
use Rattle.m2v_check.specs.Progress.{IsSaid, IsAllJudged}
use Rattle.m2v_check.proofs.Telling.{first_in}
use Rattle.m2v_check.proofs.Accounted.{bits_of, bits_push, said_of_all, ended_is}
use Rattle.m2v_check.proofs.Listed.{nexts, all_bits, nexts_bits}
use Rattle.m2v_check.proofs.Concluding.{SaidBy, said_is}
use Rattle.m2v_check.proofs.Ruling.{first_breaks}
use Rattle.m2v_check.proofs.Onward.{AccountSo, Runs, first_stays}
use Rattle.m2v_check.proofs.Checking.{JudgedSoFar}

first_low : (es : Events) → first_low_delay es ≡ low_delay_of (first_in None es)
first_low [] = refl
first_low (sequence_header s ∷ es) = ap low_delay_of (sym (first_stays s es))
first_low (group_header g ∷ es) = first_low es
first_low (coded_picture p ∷ es) = first_low es

said_as : (a : StreamAccount) (ps : List (List ℕ)) (ns : List Numbered) (r : Result Found AccountFault) → SaidBy a ps ns r → IsSaid (Some a) ps ns r
unfolding figures_of
said_as a ps ns (Err f) h = h
said_as a ps ns (Ok x) h = (h.0, λ i. record { low = h.1 i; high = h.2 i; delays = h.3 i })

run_said : (s : Sequence) (ps : List (List ℕ)) (n : Numbered) (ns : List Numbered) (b : Buffer) → length (n ∷ ns) ≤ length ps → Runs s ps n (n ∷ ns) b
    → IsSaid (account_by s.extension.low_delay (Some s) ps (n ∷ ns)) ps (n ∷ ns) (ended_by (Some b))
run_said s [] n ns b le r = absurd (omega (arith, le))
run_said s (p ∷ ps) n ns b le r =
    let a = account_from s.extension.low_delay s n (p ∷ ps) (n ∷ ns) in
    let ts = nexts (times_of s) (p ∷ ps) (n ∷ ns) in
    let bits : bits_of ts ≡ all_bits (p ∷ ps) = nexts_bits (times_of s) p ps n ns le in
    let total : b.course.total ≡ all_bits (p ∷ ps) = (r.run).total ∙ sym (bits_push r.before b.course.next) ∙ ap bits_of (sym r.are) ∙ bits in
    let ended : ended_by (Some b) ≡ said_of_all a.start (all_bits (p ∷ ps)) ts = ended_is a.start r.before b r.run ∙ (λ i. said_of_all a.start (total i) (sym r.are i)) in
    subst (IsSaid (Some a) (p ∷ ps) (n ∷ ns)) (sym ended)
    (said_as a (p ∷ ps) (n ∷ ns) (said_of_all a.start (all_bits (p ∷ ps)) ts) (said_is s p ps n ns le (sym bits)))

-- what is said of the account, where the first sequence header breaks no rule
account_said : (first : Option Sequence) (ps : List (List ℕ)) (ns : List Numbered) (b : Option Buffer) → length ns ≤ length ps → AccountSo first ps ns b
    → ((s : Sequence) → first ≡ Some s → IsSome (found (sequence_breaches (s ∷ []))) → ⊥) → IsSaid (account_by (low_delay_of first) first ps ns) ps ns (ended_by b)
unfolding figures_of
account_said None ps [] b le a none = subst (λ (x : Option Buffer). IsSaid None ps [] (ended_by x)) (sym a) (refl, refl)
account_said (Some s) ps [] b le a none = subst (λ (x : Option Buffer). IsSaid None ps [] (ended_by x)) (sym a) (refl, refl)
account_said None ps (n ∷ ns) b le a none = absurd a
account_said (Some s) ps (n ∷ ns) None le a none = absurd (none s refl a)
account_said (Some s) ps (n ∷ ns) (Some b) le a none = run_said s ps n ns b le a

pub all_judged : (text : List ℕ) (d : Decoding) (j : Judge) → JudgedSoFar text [] d j → IsAllJudged text d j
all_judged text d j so =
    let all : pieces text ≡ so.first = so.are ∙ append-nil so.first in
    let ns = all_numbered so.events in
    let first : d.state.first ≡ first_in None so.events = so.says.first in
    record {
      events = so.events;
      read = subst (λ (ps : List (List ℕ)). pieces_read text_start (start_of text) ps ≡ Ok (so.events, between d)) (sym all) so.read;
      rules = so.judge.rules;
      alternates = so.says.alternates;
      low = first_low so.events ∙ ap low_delay_of (sym first);
      bytes = so.judge.bytes ∙ ap (λ (ps : List (List ℕ)). sum (map length ps)) (sym all);
      account = λ none.
          subst (λ (o : Option Sequence). IsSaid (account_by (low_delay_of o) o (pieces text) ns) (pieces text) ns (ended_by j.buffer)) (sym first)
          (subst (λ (ps : List (List ℕ)). IsSaid (account_by (low_delay_of (first_in None so.events)) (first_in None so.events) ps ns) ps ns (ended_by j.buffer)) (sym all)
          (account_said (first_in None so.events) so.first ns j.buffer so.few so.judge.account
          (λ s e b. first_breaks so.events s e b (ap broken_in (sym so.judge.rules) ∙ none))));
    }
