pub mod LayingProperties
