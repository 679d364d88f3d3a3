-- The numbers of the specification that bound expressions, and what an edition bounds.
use Rattle.std.proofs.Common.{◌≡◌, ℕ, ◌^◌, ◌-◌, ◌≤◌, arith, refl}
use Rattle.meta_base.specs.Numbers.{max_file_bytes}
use Rattle.alg_model.specs.declared.edition.Edition.{Edition}
use Rattle.alg_model.specs.declared.edition.Edition.TheVariants.{One, Two}
use Rattle.alg_model.specs.declared.edition.EditionLimits.{EditionLimits}

-- the most nodes of a tree
abbrev pub max_tree_nodes : ℕ
max_tree_nodes = 256

-- the most values of a table, and the most rows
abbrev pub max_table_names : ℕ
max_table_names = 16

-- the most symbols of sequences without a repeat
abbrev pub max_simple_symbols : ℕ
max_simple_symbols = 1024

-- the most tags of a set
abbrev pub max_marks : ℕ
max_marks = 64

-- the greatest number of a label, in any edition
abbrev pub max_label_number : ℕ
max_label_number = 2 ^ 64 - 1

-- the greatest number of a value that a label acts on
abbrev pub max_value_number : ℕ
max_value_number = 2 ^ 120

-- the greatest number of a value of an instance
abbrev pub max_instance_number : ℕ
max_instance_number = 2 ^ 66

-- what each edition bounds: a row for each
abbrev pub limits_of : Edition → EditionLimits
limits_of One = record { number = 4294967295; table_names = 16; nodes = 512; arcs = 8192; dests = 64; changes = 16; net_bytes = 4194304 }
limits_of Two = record { number = 18446744073709551615; table_names = 16; nodes = 4096; arcs = 8192; dests = 8; changes = 4; net_bytes = 4194304 }

-- the greatest that any edition has of this
pub record IsMost (limit : Edition → ℕ) (most : ℕ) : Type 0 where
  pub bounds : (e : Edition) → limit e ≤ most
  pub reached : (e : Edition) × (limit e ≡ most)

-- labels have the greatest number of any edition
pub most_of_labels : IsMost (λ e. (limits_of e).number) max_label_number
most_of_labels = record { bounds = bounds; reached = (Two, refl) }
  where
    bounds : (e : Edition) → (limits_of e).number ≤ max_label_number
    bounds One = omega arith
    bounds Two = omega arith

-- tables and files have one limit in all editions
pub tables_alike : (e : Edition) → (limits_of e).table_names ≡ max_table_names
tables_alike One = refl
tables_alike Two = refl

pub files_alike : (e : Edition) → (limits_of e).net_bytes ≡ max_file_bytes
files_alike One = refl
files_alike Two = refl
