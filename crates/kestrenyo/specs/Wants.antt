-- What a number asks for: "whether `command` or `description` is wanted".
use Rattle.std.specs.Prelude.{ℕ, eqb}
use Rattle.lists.specs.Tests.{if_b}
use Rattle.spec.specs.declared.Wanted.{Wanted}
use Rattle.spec.specs.declared.Wanted.TheVariants.{Command, Description}

-- 0 the command, any other number the description
unfoldable pub wanted_of : ℕ → Wanted
wanted_of n = if_b (eqb n 0) (λ _. Command) (λ _. Description)
