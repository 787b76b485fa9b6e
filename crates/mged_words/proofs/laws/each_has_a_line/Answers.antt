use Rattle.mged_words.proofs.OneLineLaws.{r_line, g_line, rm_line, kill_line, mvall_line, ls_line, l_line, tree_line, save_line}
use Rattle.mged_words.proofs.laws.each_has_a_line.Goals as goal

pub returns-clause-region : goal.returns-clause-region
returns-clause-region c = r_line

pub returns-clause-group : goal.returns-clause-group
returns-clause-group c = g_line

pub returns-clause-remove : goal.returns-clause-remove
returns-clause-remove c = rm_line

pub returns-clause-kill : goal.returns-clause-kill
returns-clause-kill c = kill_line

pub returns-clause-rename : goal.returns-clause-rename
returns-clause-rename c = mvall_line

pub returns-clause-names : goal.returns-clause-names
returns-clause-names c = ls_line

pub returns-clause-list : goal.returns-clause-list
returns-clause-list c = l_line

pub returns-clause-tree : goal.returns-clause-tree
returns-clause-tree c = tree_line

pub returns-clause-save : goal.returns-clause-save
returns-clause-save c = save_line
