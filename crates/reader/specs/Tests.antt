-- Connectives of tests. A test is a Bool, and that it holds is written `t ≡ true`.
use Rattle.std.specs.Prelude.{Bool, true, false}

infixr 35 ◌and◌
infixr 30 ◌or◌
infixr 25 ◌implies◌
unfoldable pub ◌and◌ : Bool → Bool → Bool
true and b = b
false and b = false

unfoldable pub ◌or◌ : Bool → Bool → Bool
true or b = true
false or b = b

unfoldable pub ◌implies◌ : Bool → Bool → Bool
true implies b = b
false implies b = true
