-- The setup of what a setup says is the setup.
use Rattle.std.proofs.Common.{◌≡◌, Result, Ok, length, refl, ap, sym, ◌∙◌}
use Rattle.pin_matrix.specs.declared.setup.Setup.{Setup}
use Rattle.setup_keys.specs.Block.{BlockKeys, keys_of_block}
use Rattle.setup_keys.proofs.Exact.{says_itself}
use Rattle.block_config.specs.SetupOf.{setup_of}
use Rattle.block_config.specs.Owning.{OwningKeys, keys_of_owning, owning_setup_of}
use Rattle.block_config.specs.declared.owning.OwningSetup.{OwningSetup}
use Rattle.block_config.specs.declared.fault.ConfigFault.{ConfigFault}
use Rattle.block_config.specs.declared.fault.ConfigFault.TheVariants.{Memory, At}
use Rattle.answers.specs.Answers.{Refuses, made}
use Rattle.block_config.specs.Answer.{ConfigRefusal, told}

pub setup_of-keys : (s : Setup) → length s.machines ≡ 4 → setup_of (keys_of_block s) ≡ s
unfolding setup_of
setup_of-keys s four = says_itself s four

-- a setup that says this is the setup of it
pub says : (s : Setup) (k : BlockKeys) → length s.machines ≡ 4 → keys_of_block s ≡ k → s ≡ setup_of k
says s k four e = sym (setup_of-keys s four) ∙ ap setup_of e

-- the setup of what a setup says, where something was computed
pub first_answered : (s : OwningSetup) (k : Result OwningKeys ConfigRefusal) → length s.setup.machines ≡ 4 → k ≡ Ok (keys_of_owning s) → made setup_of (made (λ b. b.block) k) ≡ Ok s.setup
first_answered s k four e = rw e (ap Ok (setup_of-keys s.setup four))

-- a fault of a block is one of its setup
pub refuses_first : (fault : ConfigFault) (k : Result OwningKeys ConfigRefusal) → Refuses (told fault) k → Refuses (told fault) (made setup_of (made (λ b. b.block) k))
refuses_first Memory k e = tt
refuses_first (At key kind) k e = rw e refl

-- the same of a second block, with the pins that it owns
pub second_answered : (s : OwningSetup) (k : Result OwningKeys ConfigRefusal) → length s.setup.machines ≡ 4 → k ≡ Ok (keys_of_owning s) → made owning_setup_of k ≡ Ok s
second_answered s k four e = rw e (ap (λ (x : Setup). Ok (record { setup = x; own = s.own })) (setup_of-keys s.setup four))

pub refuses_second : (fault : ConfigFault) (k : Result OwningKeys ConfigRefusal) → Refuses (told fault) k → Refuses (told fault) (made owning_setup_of k)
refuses_second Memory k e = tt
refuses_second (At key kind) k e = rw e refl
