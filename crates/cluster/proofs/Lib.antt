pub mod Opens
