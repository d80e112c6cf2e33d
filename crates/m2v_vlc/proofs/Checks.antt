-- What is computed of each table, and what follows from it for all of them.
use Rattle.std.proofs.Common.{◌≡◌, ℕ, ◌<◌, ◌≤◌, Bool, true, List, ◌++◌, length, get_or, Result, sym, ap, subst}
use Rattle.std.specs.Prelude.{IfOk}
use Rattle.std.specs.List.{list_all}
use Rattle.m2v_bits.specs.Bits.{number, ahead}
use Rattle.m2v_bits.specs.Syntax.{Gives}
use Rattle.m2v_bits.proofs.SyntaxLaws.{Strict}
use Rattle.m2v_vlc.specs.declared.values.CodeFault.{CodeFault}
use Rattle.m2v_vlc.specs.declared.values.CodeFault.TheVariants.{Truncated, NoCode}
use Rattle.m2v_vlc.specs.Codes.{Row, code_at, code_of, is_free, is_within, is_single}
use Rattle.m2v_vlc.specs.Lookups.{rows_of, IsTable, Points, code_in}
use Rattle.m2v_vlc.proofs.CodeLaws.{Reflexive, within_more, spelled_once, code_strict}
use Rattle.m2v_vlc.proofs.LookupLaws.{holds, points_flat}
use Rattle.m2v_vlc.proofs.ValueLaws.{in_range}

-- a program's entries are the table's rows; no code begins another, none has more than w bits, each value has one row;
-- and the look-up holds what the first w bits point to
pub record Checked {V : Type 0} (same : V → V → Bool) (d : V) (w : ℕ) (entries : List (V × ℕ × ℕ)) (lookup : List ℕ) (t : List (Row V)) : Type 0 where
  pub rows : rows_of entries ≡ t
  pub free : is_free t ≡ true
  pub within : is_within w t ≡ true
  pub width : (0 < w) × (w ≤ 17)
  pub single : is_single same t ≡ true
  pub looked : holds d w t 0 lookup ≡ true

module _ {V : Type 0} {same : V → V → Bool} {d : V} {w : ℕ} {entries : List (V × ℕ × ℕ)} {lookup : List ℕ} {t : List (Row V)} (c : Checked same d w entries lookup t) where
  pub table_of : IsTable t
  table_of = record { free = c.free; within = within_more w 17 t c.width.1 c.within }

  pub points_of : (bs : List Bool) (p i : ℕ) → p ≡ number (ahead w bs) → p < length lookup → i ≡ get_or lookup p 0 → Points t i bs
  points_of bs p i at lt found = points_flat d w t lookup bs p i table_of c.width.0 c.width.1 c.looked at lt found

  -- a leaf of syntax
  pub strict_of : {K : Type 0} (cut none : K) → Strict length (code_at cut none t)
  strict_of cut none = code_strict cut none t c.free

  -- no second spelling: what stands for a value is its code
  pub once_of : {K : Type 0} (cut none : K) (v : V) (text rest : List Bool) → Reflexive same → (code_at cut none t).Stands v text rest → text ≡ code_of same t v ++ rest
  once_of cut none v text rest all stands = spelled_once cut none same t v text rest all c.single stands

  -- the same of the program's entries
  pub entries_table : IsTable (rows_of entries)
  entries_table = subst (λ (x : List (Row V)). IsTable x) (sym c.rows) table_of

  pub entries_point : (bs : List Bool) (i : ℕ) → Points t i bs → Points (rows_of entries) i bs
  entries_point bs i at = subst (λ (x : List (Row V)). Points x i bs) (sym c.rows) at

  pub entries_code : (i : ℕ) → code_in (rows_of entries) i ≡ code_in t i
  entries_code i = ap (λ (x : List (Row V)). code_in x i) c.rows

  -- what is read by them is read by the table, and what holds of each row's value holds of it
  pub entries_give : (result : Result V CodeFault) (rest bs : List Bool) → Gives result rest ((code_at Truncated NoCode (rows_of entries)).read bs) → Gives result rest ((code_at Truncated NoCode t).read bs)
  entries_give result rest bs gives = subst (λ (x : List (Row V)). Gives result rest ((code_at Truncated NoCode x).read bs)) c.rows gives

  pub entries_range : (P : V → Type 0) (test : V → Bool) (result : Result V CodeFault) (rest bs : List Bool) → list_all (λ s. test s.value) t ≡ true → ((v : V) → test v ≡ true → P v)
      → Gives result rest ((code_at Truncated NoCode (rows_of entries)).read bs) → IfOk result P
  entries_range P test result rest bs all p gives = in_range P test Truncated NoCode t bs rest result c.free all p (entries_give result rest bs gives)
