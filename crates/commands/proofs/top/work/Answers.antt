use Rattle.std.proofs.Common.{map, string_bytes, refl, subst}
use Rattle.command_line.specs.Words.{asked_by, IsFaultOfWords, WordsAreRefused}
use Rattle.commands.specs.Outside.{call_by}
use Rattle.commands.proofs.WordsWanted.{work_ends, usage_ends, never_usage}
use Rattle.commands.proofs.FilesAsked.{work_asks, usage_asks, memory_asks}
use Rattle.commands.proofs.top.work.Goals as goal

pub returns-in-Ok-clause-ends : goal.returns-in-Ok-clause-ends
returns-in-Ok-clause-ends g c = work_ends _ (asked_by c.in-Ok.order) _ c.obey.result c.in-Ok.ensures.ok c.in-Ok.ensures.range c.obey.ensures.ends

pub returns-in-Err-Usage-clause-ends : goal.returns-in-Err-Usage-clause-ends
returns-in-Err-Usage-clause-ends g c =
    let words = map string_bytes c.args.words.now in
    let refused : WordsAreRefused words = subst (IsFaultOfWords words) c.in-Err-Usage.field-0-is c.in-Err-Usage.ensures.cause in
    usage_ends words _ refused (record { shelf = refl; out = refl })

pub returns-in-Ok-clause-asked : goal.returns-in-Ok-clause-asked
returns-in-Ok-clause-asked g c =
    work_asks _ (asked_by c.in-Ok.order) _ _ c.obey.result c.in-Ok.ensures.ok c.in-Ok.ensures.range c.obey.ensures.fetched

pub returns-in-Err-Usage-clause-asked : goal.returns-in-Err-Usage-clause-asked
returns-in-Err-Usage-clause-asked g c =
    let words = map string_bytes c.args.words.now in
    let refused : WordsAreRefused words = subst (IsFaultOfWords words) c.in-Err-Usage.field-0-is c.in-Err-Usage.ensures.cause in
    usage_asks words _ refused

pub returns-in-Err-Memory-clause-asked : goal.returns-in-Err-Memory-clause-asked
returns-in-Err-Memory-clause-asked g c =
    memory_asks (map string_bytes c.args.words.now) _

pub returns-in-Ok-clause-taken : goal.returns-in-Ok-clause-taken
returns-in-Ok-clause-taken g c = λ taken.
    never_usage (asked_by c.in-Ok.order) (call_by g.F.Shelf g.O.Sink c.args.shelf.now c.obey.new.shelf c.args.out.now c.obey.new.out)
    c.obey.result c.obey.ensures.ends
