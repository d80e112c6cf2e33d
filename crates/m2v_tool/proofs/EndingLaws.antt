-- What a status says of what was told.
use Rattle.std.proofs.Common.{◌≡◌, ◌⊎◌, inl, inr, ℕ, refl, ◌∙◌}
use Rattle.m2v_port.specs.Ends.{Change}
use Rattle.m2v_tool.specs.Endings.{Ending, status_unreported, Told, whole, cut, read_fault, write_fault, no_memory}
use Rattle.m2v_tool.specs.Runs.{Run, Yields, NoneFailed, Succeeds}

-- the status of a refusal, whether its line was put or not
pub refusal : (e : Ending) (status n : ℕ) (report : Change) → Told e status report → e.status ≡ n → status_unreported e ≡ n → (status ≡ n) ⊎ (status ≡ 12)
refusal e status n report (whole is g) a b = inl (is ∙ a)
refusal e status n report (cut (inl is) g) a b = inr is
refusal e status n report (cut (inr is) g) a b = inl (is.1 ∙ b)

-- a refusal's answer, or memory
pub or_memory : (r : Run) (Answer : Type 0) (e : Ending) (n : ℕ) → Told e r.status r.report → e.status ≡ n → status_unreported e ≡ n → (r.status ≡ n → Yields r Answer) → Yields r Answer
or_memory r Answer e n t a b f = elim (refusal e r.status n r.report t a b) [
  | inl is ↦ f is
  | inr is ↦ Yields.memory is
]

-- an endpoint failed, or memory ran out, and that was told
pub read_told : {A : Type 0} (r : Run) → Told read_fault r.status r.report → r.input.Failed → Yields r A
read_told {A} r t failed = or_memory r A read_fault 7 t refl refl (λ is. Yields.read is failed)

pub write_told : {A : Type 0} (r : Run) → Told write_fault r.status r.report → r.output.Failed → Yields r A
write_told {A} r t failed = or_memory r A write_fault 8 t refl refl (λ is. Yields.write is failed)

-- want of memory is status 12, told or not
pub memory_told : (status : ℕ) (report : Change) → Told no_memory status report → status ≡ 12
memory_told status report (whole is g) = is
memory_told status report (cut (inl is) g) = is
memory_told status report (cut (inr is) g) = is.1

pub want_told : {A : Type 0} (r : Run) → Told no_memory r.status r.report → Yields r A
want_told r t = Yields.memory (memory_told r.status r.report t)

-- where no endpoint failed, success is what an answer comes to, if what is said comes to it
pub well_answered : {A : Type 0} (r : Run) → NoneFailed r → (A → Succeeds r) → Yields r A → Succeeds r
well_answered r well said (Yields.said a) = said a
well_answered r well said (Yields.read is f) = absurd (well.input f)
well_answered r well said (Yields.write is f) = absurd (well.output f)
well_answered r well said (Yields.memory is) = inr is
