use Rattle.block_core.specs.Hosted.{hosted_at}
use Rattle.block_core.specs.HostedTwin.{hosted_twin_at, twin_stirs_in}
use Rattle.block_core.specs.Stirring.{stirs_in}
use Rattle.idle_engine.proofs.Courses.{worked-stirring, worked-twin_stirring}
use Rattle.idle_engine.proofs.WorkedClocks.{worked-all}
use Rattle.idle_engine.proofs.laws.few_clocks_are_worked_out.Goals as goal

pub returns-clause-clocks : goal.returns-clause-clocks
returns-clause-clocks c = λ start lines clocks. worked-all (λ n. stirs_in lines (hosted_at start lines n)) clocks

pub returns-clause-stirring : goal.returns-clause-stirring
returns-clause-stirring c = λ start lines clocks. worked-stirring start lines clocks

pub returns-clause-twin_clocks : goal.returns-clause-twin_clocks
returns-clause-twin_clocks c = λ start first second clocks. worked-all (λ n. twin_stirs_in first second (hosted_twin_at start first second n)) clocks

pub returns-clause-twin_stirring : goal.returns-clause-twin_stirring
returns-clause-twin_stirring c = λ start first second clocks. worked-twin_stirring start first second clocks
