-- The columns of a line, one after another.
use Rattle.std.proofs.Common.{◌≡◌, ℕ, suc, ◌+◌, ◌<◌, List, ◌++◌, map, length, get_or, drop, refl, arith, append_assoc, drop-cons}
use Rattle.std.specs.Prelude.{codes}
use Rattle.std.specs.List.{flat_map}
use Rattle.std.proofs.lemmas.List.{length-map, get_or-map}
use Rattle.m2v_audit.specs.Lines.{Column, column_text, told}
use Rattle.m2v_audit.specs.declared.line.Column.{Column as Printed}

-- a tab and a column's text
abbrev pub part_of : Column → List ℕ
part_of c = codes "\t" ++ column_text c

-- what was printed, a column, and what follows
parts_more : (before : List ℕ) (columns : List Column) (i : ℕ) (d : Column) → i < length columns
    → before ++ flat_map part_of (drop i columns)
    ≡ ((before ++ codes "\t") ++ column_text (get_or columns i d)) ++ flat_map part_of (drop (i + 1) columns)
parts_more before columns i d lt =
    let next : i + 1 ≡ suc i = omega arith in
    let text = column_text (get_or columns i d) in
    let rest = flat_map part_of (drop (suc i) columns) in
    rw (drop-cons columns i d, next)
    (rw (append_assoc (before ++ codes "\t") text rest, append_assoc before (codes "\t") (text ++ rest)) refl)

-- the same of the code's columns
pub columns_more : (before : List ℕ) (columns : List Printed) (i : ℕ) (d : Printed) → i < length columns
    → before ++ flat_map part_of (drop i (map told columns))
    ≡ ((before ++ codes "\t") ++ column_text (told (get_or columns i d))) ++ flat_map part_of (drop (i + 1) (map told columns))
columns_more before columns i d lt =
    rw (← get_or-map told columns i d (told d) lt)
    (parts_more before (map told columns) i (told d) (omega (arith, length-map columns told)))
