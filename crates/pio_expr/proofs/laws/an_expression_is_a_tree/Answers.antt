use Rattle.pio_expr.proofs.Trees.{read_is_tree, value_of_tree}
use Rattle.pio_expr.proofs.laws.an_expression_is_a_tree.Goals as goal

pub returns-clause-tree : goal.returns-clause-tree
returns-clause-tree c = read_is_tree

pub returns-clause-value : goal.returns-clause-value
returns-clause-value c = value_of_tree
