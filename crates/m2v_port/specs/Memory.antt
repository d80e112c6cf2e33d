-- Endpoints in memory.
use Rattle.std.specs.Prelude.{ℕ, ◌+◌, ◌-◌, ◌^◌, min, Bool, List, if◌then◌else◌, ◌==◌, Option}
use Rattle.std.specs.List.{list_any}

-- The calls of an endpoint: the numbers, from 1, of those that fail, how many were made, and how many of them failed.
-- Those made are counted up to 2 ^ 64 - 1; no later call has a number that can stand in the list.
pub record Calls : Type 0 where
  pub fail : List ℕ
  pub made : ℕ
  pub failed : ℕ

-- before the first call
abbrev pub no_calls : List ℕ → Calls
no_calls fail = record { fail = fail; made = 0; failed = 0 }

-- whether the next call fails: its number stands in the list
abbrev pub next_fails : Calls → Bool
next_fails c = list_any (λ number. number == c.made + 1) c.fail

-- after the next call
abbrev pub after_call : Calls → Calls
after_call c = record {
  fail = c.fail;
  made = min (c.made + 1) (2 ^ 64 - 1);
  failed = if next_fails c then c.failed + 1 else c.failed;
}

-- a source: the bytes that are left, and its calls
pub record Feed : Type 0 where
  pub left : List ℕ
  pub calls : Calls

-- a sink: the bytes that it holds, and its calls
pub record Store : Type 0 where
  pub held : List ℕ
  pub calls : Calls

-- a named sink whose calls don't fail: the bytes that it holds, and its name once it is open
pub record Named : Type 0 where
  pub held : List ℕ
  pub name : Option (List ℕ)

-- a named sink: the bytes that it holds, its name once it is open, and its calls
pub record NamedStore : Type 0 where
  pub held : List ℕ
  pub name : Option (List ℕ)
  pub calls : Calls
