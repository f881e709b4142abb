-- How a line begins: the keyword of its statement, or a key.
use Prim.Native.Nat.{ℕ}
use mathlib.Core.Bool.{true, false}
use mathlib.Core.List.{List}
use mathlib.Core.Path.{◌≡◌, sym, ◌∙◌}
use lib.ListN.{take, drop}
use Rattle.lists.specs.Bytes.{eq_bytes}
use Rattle.lists.specs.Parts.{part_from_start}
use Rattle.lists.specs.Runs.{Reads, after_run}
use Rattle.lists.specs.Text.{bytes}
use Rattle.spec.specs.Lines.{is_space}
use Rattle.spec.specs.Forms.{name_of, after_name, cut_rule, cut_build, cut_default, cut_open, cut_binding, cut_statement, cut_indented}
use Rattle.scan_tokens.proofs.Names.{part_name}

pub indented_is : {l : List ℕ} {from : ℕ} → Reads (after_run is_space) l 0 from → cut_indented l ≡ cut_binding (drop from l)
unfolding cut_indented
indented_is a = rw a.rest

-- the line by its first word
module _ {l : List ℕ} {end : ℕ} (a : Reads after_name l 0 end) where
  first_word : name_of l ≡ take end l
  first_word = sym (part_name a) ∙ part_from_start l end

  pub statement_rule : eq_bytes (take end l) (bytes "rule") ≡ true → cut_statement l ≡ cut_rule (drop end l)
  unfolding cut_statement
  statement_rule p = rw (first_word, p, a.rest)

  module _ (n : eq_bytes (take end l) (bytes "rule") ≡ false) where
    pub statement_build : eq_bytes (take end l) (bytes "build") ≡ true → cut_statement l ≡ cut_build (drop end l)
    unfolding cut_statement
    statement_build p = rw (first_word, n, p, a.rest)

    module _ (m : eq_bytes (take end l) (bytes "build") ≡ false) where
      pub statement_default : eq_bytes (take end l) (bytes "default") ≡ true → cut_statement l ≡ cut_default (drop end l)
      unfolding cut_statement
      statement_default p = rw (first_word, n, m, p, a.rest)

      module _ (d : eq_bytes (take end l) (bytes "default") ≡ false) where
        pub statement_include : eq_bytes (take end l) (bytes "include") ≡ true → cut_statement l ≡ cut_open false (drop end l)
        unfolding cut_statement
        statement_include p = rw (first_word, n, m, d, p, a.rest)

        module _ (i : eq_bytes (take end l) (bytes "include") ≡ false) where
          pub statement_subninja : eq_bytes (take end l) (bytes "subninja") ≡ true → cut_statement l ≡ cut_open true (drop end l)
          unfolding cut_statement
          statement_subninja p = rw (first_word, n, m, d, i, p, a.rest)

          pub statement_binding : eq_bytes (take end l) (bytes "subninja") ≡ false → cut_statement l ≡ cut_binding l
          unfolding cut_statement
          statement_binding p = rw (first_word, n, m, d, i, p)
