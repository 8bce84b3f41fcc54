-- The system for which a Mach-O file is built: build_version_command and PLATFORM_MACOS 1 and on in Apple's mach-o/loader.h.
use Rattle.std.specs.Prelude.{ℕ, ◌+◌, ◌*◌, Option, Some, None, option_map}
use Rattle.ir_core.specs.declared.target.BinaryFormat.{BinaryFormat}
use Rattle.ir_core.specs.declared.target.BinaryFormat.TheVariants.{Macho}
use Rattle.ir_core.specs.declared.target.System.{System}
use Rattle.ir_core.specs.declared.target.System.TheVariants as system
use Rattle.ir_core.specs.declared.target.Environment.{Environment}
use Rattle.ir_core.specs.declared.target.Environment.TheVariants as environment
use Rattle.ir_core.specs.declared.target.Version.{Version}
use Rattle.ir_core.specs.declared.target.Triple.{Triple}
use Rattle.object_core.specs.declared.kinds.MachOBuildVersion.{MachOBuildVersion}

-- the platform of a device, or of its simulator; PLATFORM_MACCATALYST 6
abbrev pub device_platform : ℕ → ℕ → Environment → ℕ
device_platform device simulator environment.Unknown = device
device_platform device simulator environment.Macabi = 6
device_platform device simulator environment.Sim = simulator

-- the platform of a system, where it has one
abbrev pub platform_of : System → Environment → Option ℕ
platform_of system.Unknown e = None
platform_of system.Linux e = None
platform_of system.Darwin e = Some 1
platform_of system.MacOSX e = Some 1
platform_of system.IOS e = Some (device_platform 2 7 e)
platform_of system.TvOS e = Some (device_platform 3 8 e)
platform_of system.WatchOS e = Some (device_platform 4 9 e)
platform_of system.VisionOS e = Some (device_platform 11 12 e)
platform_of system.XROS e = Some (device_platform 11 12 e)

-- the version in nibbles xxxx.yy.zz, 0 where none is known
abbrev pub version_number : Option Version → ℕ
version_number None = 0
version_number (Some v) = v.major * 65536 + (v.minor * 256 + v.patch)

-- the build version of a Mach-O file; no SDK is known
abbrev pub macho_build_version : Triple → Option MachOBuildVersion
macho_build_version triple = option_map (λ platform. record { platform = platform; minos = version_number triple.version; sdk = 0 }) (platform_of triple.system triple.environment)

-- the build version of a file: other formats have none
abbrev pub file_version : BinaryFormat → Triple → Option MachOBuildVersion
file_version Macho triple = macho_build_version triple
file_version _ triple = None
