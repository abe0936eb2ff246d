-- What the program is to do.
use Rattle.std.specs.Prelude.{ℕ, List, Option, None, Some, option_map, codes, if◌then◌else◌}
use Rattle.std.specs.Borrow.{Bor}
use Rattle.std.specs.Str.{bytes_eq}
use Rattle.hwrite.specs.declared.command.Task.{Task}
use Rattle.hwrite.specs.declared.command.Task.TheVariants as task

-- the task of a command's name
abbrev pub task_named : List ℕ → Option Task
task_named name =
    if bytes_eq name (codes "tokens") then Some task.Tokens else (if bytes_eq name (codes "tree") then Some task.Tree
    else (if bytes_eq name (codes "fragment") then Some task.Tree else (if bytes_eq name (codes "errors") then Some task.Errors
    else (if bytes_eq name (codes "write") then Some task.Write else (if bytes_eq name (codes "plain") then Some task.Plain else None)))))

-- the text of a name, if there is one
abbrev pub own_context : Option (Bor (List ℕ)) → Option (List ℕ)
own_context name = option_map (λ s. s.now) name
