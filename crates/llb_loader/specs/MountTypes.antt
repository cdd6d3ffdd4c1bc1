-- The types of mounts, and their numbers in a definition.
use Rattle.std.specs.Prelude.{ℤ}
use Rattle.llb_loader.specs.Mounts.{bind, secret, ssh, cache, tmpfs}
use Rattle.llb_loader.specs.declared.mount_type.MountType.{MountType}
use Rattle.llb_loader.specs.declared.mount_type.MountType.TheVariants.{Bind, Secret, Ssh, Cache, Tmpfs}

-- the number that a definition has for a type of mounts
abbrev pub number_of : MountType → ℤ
number_of Bind = bind
number_of Secret = secret
number_of Ssh = ssh
number_of Cache = cache
number_of Tmpfs = tmpfs
