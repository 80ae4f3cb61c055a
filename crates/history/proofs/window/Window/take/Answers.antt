-- `history::window::Window::take` meets its contract.
use mathlib.Core.Path.{refl}
use Rattle.history.proofs.PushLaws.{push_takes}
use Rattle.history.proofs.window.Window.take.Goals as goal

pub returns : goal.returns
returns c = push_takes _ _ _ c.requires.0 _ _ c.cell_of.ensures.0 c.cell_of.ensures.1 _ refl
